-- How a plain file's run over received frames ends, whatever frames come.
use Rattle.std.specs.Prelude.{◌≡◌, ℕ, Bool, List, [], Some, IsSome}
use Rattle.cc_meaning.specs.declared.frame.Frame.{Frame}
use Rattle.cc_meaning.specs.declared.report.Limits.{Limits}
use Rattle.cc_meaning.specs.declared.report.Report.{Report}
use Rattle.cc_output.specs.Travel.{ended_line}
use Rattle.cc_meaning_plain.specs.declared.plain.Plain.{Plain}
use Rattle.cc_meaning_plain.specs.Laws.{AreBytes}
use Rattle.cc_meaning_plain.specs.Plain.{IsPlain}
use Rattle.cc_meaning_device.specs.Transparent.{plain_offloaded}

-- the run made no scripted call, and returned, or stopped for want of instructions or words
pub record EndsPlainly (report : Report) : Type 0 where
  pub no_calls : report.calls ≡ []
  pub ended : IsSome (ended_line report.ending)

-- so is every such run, also where a Back says how its function ended
abbrev pub PlainEnds : Type 0
PlainEnds = (file : List ℕ) (plain : Plain) (moves : ℕ → Bool) (limits : Limits) (frames : List Frame) (report : Report) → AreBytes file → IsPlain file plain →
    (plain_offloaded plain moves limits frames).report ≡ Some report → EndsPlainly report
