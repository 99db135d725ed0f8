-- What a file comes to.
use Rattle.std.proofs.Common.{◌≡◌, ◌≢◌, ℕ, ◌≤◌, List, [], length, Option, Result, Ok, Err, sym, ap, ◌∙◌, subst, IfOk}
use Rattle.std.specs.declared.alloc.AllocError.{AllocError}
use Rattle.cc_outside.specs.Shelves.{Known, Counts, IsFile}
use Rattle.cc_output.specs.declared.plan.Plan.{Plan}
use Rattle.cc_output.specs.Faults.{fault_plan}
use Rattle.cc_meaning_program.specs.Asked.{asked_class}
use Rattle.cc_check.specs.Checking.{IsChecked}
use Rattle.cc_check.specs.declared.fault.CheckFault.{CheckFault}
use Rattle.cc_check.specs.declared.fault.CheckFault.TheVariants as checks
use Rattle.cc_check.specs.declared.summary.Summary.{Summary}
use Rattle.cc_command_check.specs.Plans.{summary_plan, fault_of, longest_file, BytesPlan, accepted, refused, FilePlan, was_read}

pub accepted_plan : (bytes : List ℕ) (main : Option (List ℕ)) (summary : Summary) (made : Result Plan AllocError) → IsChecked bytes (asked_class main) (Ok summary) →
    IfOk made (λ plan. plan ≡ summary_plan summary) → IfOk made (BytesPlan bytes main)
accepted_plan bytes main summary (Ok plan) is e = accepted summary is e
accepted_plan bytes main summary (Err end) is e = tt

pub refused_plan : (bytes : List ℕ) (main : Option (List ℕ)) (fault : CheckFault) (made : Result Plan AllocError) → (fault ≢ checks.Memory → IsChecked bytes (asked_class main) (Err fault)) →
    IfOk made (λ plan. (fault ≢ checks.Memory) × (plan ≡ fault_plan (fault_of fault) [])) → IfOk made (BytesPlan bytes main)
refused_plan bytes main fault (Ok plan) is e = refused fault (is e.0) e.1
refused_plan bytes main fault (Err end) is e = tt

pub read_plan : (known : Known) (old new : Counts) (name : List ℕ) (main : Option (List ℕ)) (bytes file : List ℕ) (made : Result Plan AllocError) → file ≡ bytes → IsFile known name bytes →
    length bytes ≤ longest_file → IfOk made (BytesPlan file main) → IfOk made (λ plan. FilePlan known old name main new plan)
read_plan known old new name main bytes file (Ok plan) same is short p = was_read bytes is short (subst (λ (b : List ℕ). BytesPlan b main plan) same p)
read_plan known old new name main bytes file (Err end) same is short p = tt
