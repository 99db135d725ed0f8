-- What `run FILE` comes to, before anything is written.
use Rattle.std.specs.Prelude.{◌≡◌, ◌⊎◌, ℕ, ◌≤◌, List, [], ◌∷◌, length, Option, Some, None, if◌then◌else◌, codes}
use Rattle.std.specs.Str.{bytes_eq}
use Rattle.cc_meaning.specs.declared.report.Ending.TheVariants as ending
use Rattle.cc_meaning.specs.declared.report.Report.{Report}
use Rattle.cc_outside.specs.Counting.{Rose}
use Rattle.cc_outside.specs.Shelves.{Known, Counts, IsFile, IsAbsent, IsLonger}
use Rattle.cc_output.specs.declared.plan.Plan.{Plan}
use Rattle.cc_output.specs.Lines.{returned_line}
use Rattle.cc_meaning_run.specs.Local.{local}
use Rattle.cc_meaning_plain.specs.declared.plain.Plain.{Plain}
use Rattle.cc_meaning_plain.specs.Tables.{longest_file}
use Rattle.cc_meaning_plain.specs.Plain.{IsPlain}
use Rattle.cc_meaning_plain.specs.Program.{setting_of}
use Rattle.cc_meaning_plain.specs.Laws.{default_limits}
use Rattle.cc_output.specs.declared.fault.Fault.TheVariants as faults
use Rattle.cc_output.specs.Faults.{fault_plan}

-- the file in the words `run FILE`, which are just these two
abbrev pub file_named : List (List ℕ) → Option (List ℕ)
file_named [] = None
file_named (command ∷ []) = None
file_named (command ∷ name ∷ []) = if bytes_eq command (codes "run") then Some name else None
file_named (command ∷ name ∷ third ∷ rest) = None

-- the bytes are those of no plain file
abbrev pub IsNotPlain : List ℕ → Type 0
IsNotPlain bytes = (plain : Plain) → IsPlain bytes plain → ⊥

-- the run of a plain file on one heap, without arguments and within the limits for which none are named, has this report, and returned
pub record Returns (bytes : List ℕ) (report : Report) : Type 0 where
  pub plain : Plain
  pub is_plain : IsPlain bytes plain
  pub is_report : local (setting_of plain) [] default_limits ≡ Some report
  pub returned : report.ending ≡ ending.Returned

-- what was printed goes to out
abbrev pub ran_plan : Report → Plan
ran_plan report = record { status = 0; out = report.out; notes = returned_line }

-- what the bytes of the file come to
abbrev pub BytesPlan : List ℕ → List ℕ → Plan → Type 0
BytesPlan name bytes plan = (IsNotPlain bytes × (plan ≡ fault_plan faults.NotBuilt name)) ⊎ ((report : Report) × Returns bytes report × (plan ≡ ran_plan report))

-- `run FILE`: the file could not be read, there is none, it is too long, or it was read and comes to what its bytes come to
pub data RunPlan (known : Known) (old : Counts) (name : List ℕ) (new : Counts) (plan : Plan) : Type 0 where
  failed : Rose old.faults new.faults → plan ≡ fault_plan faults.ReadFault name → RunPlan known old name new plan
  absent : IsAbsent known name → Rose old.misses new.misses → plan ≡ fault_plan faults.Absent name → RunPlan known old name new plan
  too_large : IsLonger known name longest_file → Rose old.misses new.misses → plan ≡ fault_plan faults.TooLarge name → RunPlan known old name new plan
  was_read : (bytes : List ℕ) → IsFile known name bytes → length bytes ≤ longest_file → BytesPlan name bytes plan → RunPlan known old name new plan
