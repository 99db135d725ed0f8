-- A file is refused.
use Rattle.std.proofs.Common.{◌≡◌, ◌≢◌, ◌⊎◌, inl, inr, ℕ, List, Option, sym, ap, ◌∙◌, subst}
use Rattle.cc_meaning.specs.declared.fault.VerifyFault.{VerifyFault}
use Rattle.cc_meaning.specs.declared.fault.VerifyFault.TheVariants as verify
use Rattle.cc_meaning.specs.declared.program.Program.{Program}
use Rattle.cc_meaning_typing.specs.Faults.{IsFirstFault}
use Rattle.cc_meaning_program.specs.Reading.{IsReadFault}
use Rattle.cc_meaning_program.specs.declared.read_fault.ReadFault.{ReadFault}
use Rattle.cc_meaning_program.specs.declared.read_fault.ReadFault.TheVariants as read
use Rattle.cc_check.specs.Checking.{IsRefused, read_fault}
use Rattle.cc_check.specs.declared.fault.CheckFault.{CheckFault}
use Rattle.cc_check.specs.declared.fault.CheckFault.TheVariants as faults

-- a fault of reading is one of checking
pub unread_refused : (file : List ℕ) (asked : Option (List ℕ)) (given : ReadFault) (fault : CheckFault) → fault ≡ read_fault given → fault ≢ faults.Memory → (given ≢ read.Memory → IsReadFault file asked given) → IsRefused file asked fault
unfolding read_fault
unread_refused file asked given fault is other faulty =
    subst (IsRefused file asked) (sym is) (IsRefused.unread (faulty (λ same. other (is ∙ ap read_fault same))))

-- a program that comes back has its first fault still
pub first_of_same : (program original : Program) (fault : VerifyFault) → program ≡ original → (fault ≡ verify.Memory) ⊎ IsFirstFault original fault → fault ≢ verify.Memory → IsFirstFault program fault
first_of_same program original fault same (inl lacks) other = absurd (other lacks)
first_of_same program original fault same (inr first) other = subst (λ (p : Program). IsFirstFault p fault) (sym same) first
