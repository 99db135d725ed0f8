-- Checking finds one thing at most.
use Rattle.std.proofs.Common.{◌≡◌, ℕ, List, Option, Result, Ok, Err, ap, subst}
use Rattle.cc_meaning.specs.declared.fault.VerifyFault.{VerifyFault}
use Rattle.cc_meaning.specs.declared.program.Method.{Method}
use Rattle.cc_meaning.specs.declared.program.Program.{Program}
use Rattle.cc_meaning.specs.Names.{method_name}
use Rattle.cc_meaning_typing.specs.Faults.{IsFirstFault}
use Rattle.cc_meaning_typing.specs.VerifyLaws.{OneFirstFault, WellTypedHasNoFault}
use Rattle.cc_meaning_program.specs.Reading.{OneSpelledProgram}
use Rattle.cc_program_laws.specs.ReadingLaws.{OneReadFault, SpelledProgramsHaveNoFault, SpelledProgramsAreHierarchies}
use Rattle.cc_check.specs.Checking.{IsAccepted, NamesFault, IsRefused, IsChecked, read_fault}
use Rattle.cc_check.specs.Summaries.{summary_of}
use Rattle.cc_check.specs.declared.fault.CheckFault.{CheckFault}
use Rattle.cc_check.specs.declared.fault.CheckFault.TheVariants as faults
use Rattle.cc_check.specs.declared.summary.Summary.{Summary}
use Rattle.cc_check.proofs.Naming.{same_method}

first_of : (program : Program) (fault : VerifyFault) (named : CheckFault) → NamesFault program fault named → IsFirstFault program fault
first_of program fault _ (NamesFault.of first) = first

-- a program's first fault is named in one way
one_name : OneFirstFault → (program : Program) (fault other : VerifyFault) (this that : CheckFault) → NamesFault program fault this → NamesFault program other that → this ≡ that
one_name one_first program fault other _ _ (NamesFault.of first) (NamesFault.of second) =
    let Alike : VerifyFault → Type 0 = λ g. (found : IsFirstFault program g) → faults.Verify (method_name program first.body.method) fault ≡ faults.Verify (method_name program found.body.method) g in
    let base : Alike fault = λ found. ap (λ (m : Method). faults.Verify (method_name program m) fault) (same_method program fault first found) in
    subst Alike (one_first program fault other first second) base second

module _ (one_spelled : OneSpelledProgram) (one_read : OneReadFault) (none : SpelledProgramsHaveNoFault) (hierarchies : SpelledProgramsAreHierarchies) (one_first : OneFirstFault) (typed_none : WellTypedHasNoFault) (file : List ℕ) (asked : Option (List ℕ)) where
  one_refused : (this that : CheckFault) → IsRefused file asked this → IsRefused file asked that → this ≡ that
  one_refused _ _ (IsRefused.unread {fault = f} one) (IsRefused.unread {fault = g} two) = ap read_fault (one_read file asked f g one two)
  one_refused _ that (IsRefused.unread {fault = f} one) (IsRefused.unverified {program = q} spelled named) = absurd (none file asked q f spelled one)
  one_refused this _ (IsRefused.unverified {program = p} spelled named) (IsRefused.unread {fault = g} two) = absurd (none file asked p g spelled two)
  one_refused this that (IsRefused.unverified {program = p} {fault = f} one named) (IsRefused.unverified {program = q} {fault = g} two name) =
      one_name one_first p f g this that named (subst (λ (r : Program). NamesFault r g that) (one_spelled file asked q p two one) name)

  not_refused : (program : Program) (fault : CheckFault) → IsAccepted file asked program → IsRefused file asked fault → ⊥
  not_refused program _ accepted (IsRefused.unread {fault = f} one) = none file asked program f accepted.spelled one
  not_refused program fault accepted (IsRefused.unverified {program = q} {fault = f} spelled named) =
      typed_none program f (hierarchies file asked program accepted.spelled) accepted.typed accepted.narrow
      (subst (λ (r : Program). IsFirstFault r f) (one_spelled file asked q program spelled accepted.spelled) (first_of q f fault named))

  pub one_answer : (this that : Result Summary CheckFault) → IsChecked file asked this → IsChecked file asked that → this ≡ that
  one_answer _ _ (IsChecked.accepted {program = p} one) (IsChecked.accepted {program = q} two) = ap (λ (r : Program). Ok (summary_of r)) (one_spelled file asked p q one.spelled two.spelled)
  one_answer _ _ (IsChecked.accepted {program = p} one) (IsChecked.refused {fault = g} two) = absurd (not_refused p g one two)
  one_answer _ _ (IsChecked.refused {fault = f} one) (IsChecked.accepted {program = q} two) = absurd (not_refused q f two one)
  one_answer _ _ (IsChecked.refused {fault = f} one) (IsChecked.refused {fault = g} two) = ap Err (one_refused f g one two)
