-- What a call of `check` says, by its status.
use Rattle.std.specs.Prelude.{◌≡◌, ◌≢◌, ◌⊎◌, ℕ, ◌<◌, ◌≤◌, true, List, [], length, Option, Some, None, Ok, Err}
use Rattle.cc_outside.specs.Counting.{Rose}
use Rattle.cc_outside.specs.Shelves.{Known, Counts, Tells}
use Rattle.cc_outside.specs.Sinks.{Pipe}
use Rattle.cc_output.specs.declared.plan.Plan.{Plan}
use Rattle.cc_output.specs.Carrying.{Ends, Wrote}
use Rattle.cc_output.specs.declared.fault.Fault.TheVariants as faults
use Rattle.cc_output.specs.Faults.{line_of, status_of}
use Rattle.clap.specs.Words.{takes}
use Rattle.cc_meaning_program.specs.Asked.{asked_class}
use Rattle.cc_check.specs.Checking.{IsChecked}
use Rattle.cc_check.specs.declared.fault.CheckFault.{CheckFault}
use Rattle.cc_check.specs.declared.summary.Summary.{Summary}
use Rattle.cc_command_check.specs.Calls.{check}
use Rattle.cc_command_check.specs.CheckLine.{check_app, CallsFor}
use Rattle.cc_command_check.specs.Plans.{fault_of, longest_file, WordsPlan}

-- the outside, as far as it is told
pub record Outside : Type 0 where
  pub known : Known
  pub counts : Counts
  pub out : Pipe
  pub notes : Pipe

-- the words come to a plan, and it is carried out; where it has no text for out, no call is made there
abbrev pub ComesTo : List (List ℕ) → Outside → ℕ → Outside → (uncalled : Type 0) → Type 0
ComesTo words old status new uncalled =
    (plan : Plan) × WordsPlan words old.known old.counts new.counts plan × Ends plan old.out old.notes status new.out new.notes × (plan.out ≡ [] → uncalled)

-- the status is the one that is due, but where there was no memory, reading failed or a sink failed
abbrev pub IsDue : ℕ → ℕ → Type 0
IsDue due s = (s ≡ due) ⊎ ((s ≡ 70) ⊎ ((s ≡ 71) ⊎ (s ≡ 72)))

-- the status that is due by a file, with the main class that is named
pub record DueBy (main : Option (List ℕ)) (file : Option (List ℕ)) (s : ℕ) : Type 0 where
  pub absent : file ≡ None → IsDue 73 s
  pub too_large : (bytes : List ℕ) → file ≡ Some bytes → longest_file < length bytes → IsDue 74 s
  pub accepted : (bytes : List ℕ) (summary : Summary) → file ≡ Some bytes → length bytes ≤ longest_file → IsChecked bytes (asked_class main) (Ok summary) → IsDue 0 s
  pub refused : (bytes : List ℕ) (fault : CheckFault) → file ≡ Some bytes → length bytes ≤ longest_file → IsChecked bytes (asked_class main) (Err fault) → IsDue (status_of (fault_of fault)) s

-- what a call says; `uncalled` is that no call was made on out
pub record Checks (words : List (List ℕ)) (old : Outside) (status : ℕ) (new : Outside) (uncalled : Type 0) : Type 0 where
  pub ends : ComesTo words old status new uncalled
  -- where the files are told, the status is due by the file that is named
  pub due : (name : List ℕ) (main : Option (List ℕ)) → CallsFor words (check name main) → Tells old.known name (λ file. DueBy main file status)
  -- words that clap takes are no mistake
  pub taken : takes check_app words ≡ true → status ≢ 64
  -- a fault writes nothing on out
  pub quiet : status ≢ 0 → status ≢ 72 → new.out.text ≡ old.out.text
  -- no memory: nothing is on out, and on notes nothing or the line that says so
  pub forgotten : status ≡ 70 → (new.notes.text ≡ old.notes.text) ⊎ Wrote (line_of faults.Memory []) old.notes new.notes
  -- a sink failed
  pub lost : status ≡ 72 → Rose old.out.faults new.out.faults ⊎ Rose old.notes.faults new.notes.faults
