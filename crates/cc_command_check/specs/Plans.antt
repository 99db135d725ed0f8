-- What the words of `check` come to, before anything is written.
use Rattle.std.specs.Prelude.{◌≡◌, ◌⊎◌, ℕ, ◌≤◌, List, [], ◌++◌, length, Option, Ok, Err, codes}
use Rattle.std.specs.Fmt.{decimal}
use Rattle.cc_outside.specs.Counting.{Rose}
use Rattle.cc_outside.specs.Shelves.{Known, Counts, IsFile, IsAbsent, IsLonger}
use Rattle.cc_output.specs.declared.plan.Plan.{Plan}
use Rattle.cc_output.specs.Lines.{line}
use Rattle.cc_meaning_program.specs.Asked.{asked_class}
use Rattle.cc_check.specs.Checking.{IsChecked}
use Rattle.cc_check.specs.declared.fault.CheckFault.{CheckFault}
use Rattle.cc_check.specs.declared.fault.CheckFault.TheVariants as checks
use Rattle.cc_check.specs.declared.summary.Summary.{Summary}
use Rattle.cc_output.specs.declared.fault.Fault.{Fault}
use Rattle.cc_output.specs.declared.fault.Fault.TheVariants as faults
use Rattle.cc_output.specs.Faults.{fault_plan}
use Rattle.cc_command_check.specs.Calls.{Call, check, help, version, faulty}
use Rattle.cc_command_check.specs.CheckLine.{CallsFor}
use Rattle.cc_command_check.specs.Texts as texts

-- the line on what a program has
abbrev pub summary_line : Summary → List ℕ
summary_line summary =
    line ((codes "classes " ++ decimal summary.classes) ++ (codes ", methods " ++ decimal summary.methods) ++ (codes ", units " ++ decimal summary.units))

-- a text for out, and nothing for notes
abbrev pub shown_plan : List ℕ → Plan
shown_plan text = record { status = 0; out = text; notes = [] }

abbrev pub summary_plan : Summary → Plan
summary_plan summary = shown_plan (summary_line summary)

-- the fault that ends the command
abbrev pub fault_of : CheckFault → Fault
fault_of (checks.Dex fault) = faults.Dex fault
fault_of (checks.Program fault) = faults.Program fault
fault_of (checks.Verify method fault) = faults.Verify method fault
fault_of checks.Memory = faults.Memory

-- the longest file that is read
abbrev pub longest_file : ℕ
longest_file = 8388608

-- the bytes are those of a well typed program, and this is what it has; or they are refused, for this fault
pub data BytesPlan (bytes : List ℕ) (main : Option (List ℕ)) (plan : Plan) : Type 0 where
  accepted : (summary : Summary) → IsChecked bytes (asked_class main) (Ok summary) → plan ≡ summary_plan summary → BytesPlan bytes main plan
  refused : (fault : CheckFault) → IsChecked bytes (asked_class main) (Err fault) → plan ≡ fault_plan (fault_of fault) [] → BytesPlan bytes main plan

-- the file could not be read, there is none, it is too long, or it was read and comes to what its bytes come to
pub data FilePlan (known : Known) (old : Counts) (name : List ℕ) (main : Option (List ℕ)) (new : Counts) (plan : Plan) : Type 0 where
  failed : Rose old.faults new.faults → plan ≡ fault_plan faults.ReadFault name → FilePlan known old name main new plan
  absent : IsAbsent known name → Rose old.misses new.misses → plan ≡ fault_plan faults.Absent name → FilePlan known old name main new plan
  too_large : IsLonger known name longest_file → Rose old.misses new.misses → plan ≡ fault_plan faults.TooLarge name → FilePlan known old name main new plan
  was_read : (bytes : List ℕ) → IsFile known name bytes → length bytes ≤ longest_file → BytesPlan bytes main plan → FilePlan known old name main new plan

-- what is called for; but for a file to be checked, the shelf is left alone
abbrev pub CallPlan : Call → Known → (old new : Counts) → Plan → Type 0
CallPlan (check file main) known old new plan = FilePlan known old file main new plan
CallPlan help known old new plan = (plan ≡ shown_plan texts.check_help) × (new ≡ old)
CallPlan version known old new plan = (plan ≡ shown_plan texts.version) × (new ≡ old)
CallPlan faulty known old new plan = (plan ≡ fault_plan faults.Usage []) × (new ≡ old)

-- what the words call for
pub record CheckPlan (words : List (List ℕ)) (known : Known) (old new : Counts) (plan : Plan) : Type 0 where
  pub call : Call
  pub calls : CallsFor words call
  pub comes : CallPlan call known old new plan

-- the same, or there is no memory for it
abbrev pub WordsPlan : (words : List (List ℕ)) → Known → (old new : Counts) → Plan → Type 0
WordsPlan words known old new plan = CheckPlan words known old new plan ⊎ (plan ≡ fault_plan faults.Memory [])
