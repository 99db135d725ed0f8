-- What a clone makes of a Run: it evaluates the method of the image in the image's world, and answers with the image of the end.
use Rattle.std.specs.Prelude.{ℕ, Bool, true, false, List, Option, Some, None, Result, Ok, Err}
use Rattle.cc_meaning.specs.declared.fault.ImageFault.{ImageFault}
use Rattle.cc_meaning.specs.declared.fault.ImageFault.TheVariants as faults
use Rattle.cc_meaning.specs.declared.image.RunImage.{RunImage}
use Rattle.cc_meaning.specs.declared.program.Program.{Program}
use Rattle.cc_meaning.specs.declared.report.CallEnd.{CallEnd}
use Rattle.cc_meaning.specs.declared.script.Script.{Script}
use Rattle.cc_meaning_nodes.specs.Clone.{Served, Backs, IsFalse, Calls}
use Rattle.cc_meaning_world.specs.World.{World}
use Rattle.cc_meaning_world.specs.Scripts.{is_held}
use Rattle.cc_meaning_exec.specs.Eval.{Hook, Here, Ran, ran, call, eval_with}
use Rattle.cc_meaning_migration.specs.declared.image.BackImage.{BackImage}
use Rattle.cc_meaning_migration.specs.Spelling.{spelled_back}
use Rattle.cc_meaning_migration.specs.Renaming.{if_some}
use Rattle.cc_meaning_migration.specs.Decoding.{decoded_run}
use Rattle.cc_meaning_migration.specs.Placing.{table_of, stack_of, Placed, placed}
use Rattle.cc_meaning_migration.specs.Ends.{sent_end, captured_end}
use Rattle.cc_meaning_offload.specs.Jobs.{Job}

-- ---- held calls

-- the first of the held calls that were attempted
unfoldable pub first_held : Option ℕ → (is_held : Bool) → (method : ℕ) → Option ℕ
first_held (Some first) held m = Some first
first_held None true m = Some m
first_held None false m = None

-- evaluates every method where it is called, and notes the method of the first held call that is attempted
unfoldable pub watching : Script → Program → Hook (Option ℕ)
watching script p = record {
  entry = λ m args stack w t. Here t;
  spent = λ m t. t;
  called = λ m t. first_held t (is_held script p m) m;
  ended = λ m e w t. t;
}

-- ---- the evaluation

-- how the method of an image ends on the clone, the world then, and the first held call
unfoldable pub evaluated : Job → RunImage → Placed → Ran (Option ℕ)
evaluated job image at =
    call (watching job.script job.program) (eval_with (watching job.script job.program) job.script job.program image.instructions)
    job.script job.program image.method at.args (stack_of image) at.world None

-- ---- the answer

-- what the clone goes on with: the answers that were taken stay taken
abbrev pub with_cursors : Job → World → Job
with_cursors job w = record job { cursors = w.cursors }

-- the image of the end, behind that of the entry
unfoldable pub end_image : Job → RunImage → World → CallEnd → Option BackImage
end_image job image w ending = captured_end job.version job.program image (table_of image) w 0 ending

-- An end that has no image is answered like a false image, with no place of its own; no well typed program has such an end.
unfoldable pub or_false : Option (Served Job) → Served Job
or_false (Some served) = served
or_false None = IsFalse faults.Trailing

-- a Run that makes a held call isn't answered by its end
unfoldable pub served_end : Job → RunImage → Ran (Option ℕ) → Served Job
served_end job image (ran e w (Some method)) = Calls method
served_end job image (ran e w None) =
    or_false (if_some (sent_end e) (λ ending. if_some (end_image job image w ending) (λ back. Some (Backs (spelled_back job.version back) (with_cursors job w)))))

unfoldable pub served_image : Job → RunImage → Served Job
served_image job image = or_false (if_some (placed job.program job.cursors image) (λ at. Some (served_end job image (evaluated job image at))))

unfoldable pub served_by : Job → Result RunImage ImageFault → Served Job
served_by job (Ok image) = served_image job image
served_by job (Err fault) = IsFalse fault

-- The image of the end of the Run that the payload spells, the first fault of the payload, or the first held call of the evaluation.
unfoldable pub served : Job → List ℕ → Served Job
served job payload = served_by job (decoded_run job.program payload)
