-- What a run of a plain file begins with, and what it comes to.
use Rattle.std.specs.Prelude.{ℕ, [], drop, pos, Option, Some, None, replicate}
use Rattle.cc_meaning.specs.declared.report.StopCause.TheVariants as cause
use Rattle.cc_meaning.specs.declared.report.Ending.{Ending}
use Rattle.cc_meaning.specs.declared.report.Limits.{Limits}
use Rattle.cc_meaning_plain.specs.declared.plain.Plain.{Plain}
use Rattle.cc_meaning_run.specs.Acts.{less_by}
use Rattle.cc_meaning_plain.specs.Staged.{Stage}
use Rattle.cc_machine.specs.declared.progress.Progress.{Progress}
use Rattle.cc_machine.specs.Going.{Stepped, OnWith, stopped, Went, gone_on, goes}

-- nothing was done yet
abbrev pub opening : Plain → Limits → Progress
opening plain limits = record {
  numbers = replicate plain.main.registers (pos 0);
  text = [];
  instructions = limits.instructions;
  words = limits.words;
  next = 0;
}

-- the array of no arguments takes two words, or the run stops for want of them
abbrev pub begun : Option ℕ → Progress → Stepped
begun None p = stopped cause.Heap p
begun (Some words) p = OnWith (record p { words = words })

-- what a run came to that holds this, and ended so
abbrev pub stage_ended : Progress → Ending → Stage
stage_ended p ends = record { text = p.text; ending = ends; instructions = p.instructions; words = p.words }

-- where a run without stops pauses, from its beginning
abbrev pub all_gone : Plain → Progress → Went
all_gone plain p = gone_on (begun (less_by 2 p.words) p) (λ q. goes plain.functions None (drop q.next plain.main.insns) q)
