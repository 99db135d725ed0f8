-- The method that a fault names.
use Rattle.std.proofs.Common.{◌≡◌, ◌≢◌, ◌<◌, ℕ, length, Some, refl, sym, ◌∙◌, subst}
use Rattle.std.specs.Prelude.{slice_get}
use Rattle.std.proofs.lemmas.Option.{slice_get_within}
use Rattle.cc_meaning.specs.declared.fault.VerifyFault.{VerifyFault}
use Rattle.cc_meaning.specs.declared.fault.VerifyFault.TheVariants as verify
use Rattle.cc_meaning.specs.declared.program.Method.{Method}
use Rattle.cc_meaning.specs.declared.program.Program.{Program}
use Rattle.cc_meaning.specs.Names.{method_name}
use Rattle.cc_meaning_typing.specs.Code.{Body}
use Rattle.cc_meaning_typing.specs.Faults.{IsFaultOf, IsFirstFault}
use Rattle.cc_check.specs.Checking.{NamesFault, faulty_method}
use Rattle.cc_check.specs.declared.fault.CheckFault.TheVariants as faults

some_same : {A : Type 0} (x y : A) → Some x ≡ Some y → x ≡ y
some_same x y e = cc

-- a method's fault names its number
named_number : (body : Body) (number : ℕ) (fault : VerifyFault) → IsFaultOf body number fault → faulty_method fault ≡ Some number
unfolding faulty_method
named_number body number _ (IsFaultOf.too_wide wide) = refl
named_number body number _ (IsFaultOf.bad_target narrow least) = refl
named_number body number _ (IsFaultOf.unknown_member narrow stand least) = refl
named_number body number _ (IsFaultOf.falls_off narrow stand known falls) = refl
named_number body number _ (IsFaultOf.ill_typed narrow stand known stays breaks) = refl

-- the first fault names the number of its method
pub same_number : (program : Program) (fault : VerifyFault) (number : ℕ) → faulty_method fault ≡ Some number → (first : IsFirstFault program fault) → first.number ≡ number
same_number program fault number named first = some_same first.number number (sym (named_number first.body first.number fault first.is) ∙ named)

pub found_there : (program : Program) (fault : VerifyFault) (number : ℕ) → faulty_method fault ≡ Some number → (first : IsFirstFault program fault) → slice_get program.methods number ≡ Some first.body.method
found_there program fault number named first = subst (λ n. slice_get program.methods n ≡ Some first.body.method) (same_number program fault number named first) first.of.stands

pub named_within : (program : Program) (fault : VerifyFault) (number : ℕ) → faulty_method fault ≡ Some number → IsFirstFault program fault → number < length program.methods
named_within program fault number named first = slice_get_within program.methods number first.body.method (found_there program fault number named first)

pub named_is : (program : Program) (fault : VerifyFault) (number : ℕ) (method : Method) → faulty_method fault ≡ Some number → slice_get program.methods number ≡ Some method → (first : IsFirstFault program fault) → method ≡ first.body.method
named_is program fault number method named there first = some_same method first.body.method (sym there ∙ found_there program fault number named first)

-- a fault that names a method isn't want of memory
pub has_method : (fault : VerifyFault) (number : ℕ) → faulty_method fault ≡ Some number → fault ≢ verify.Memory
unfolding faulty_method
has_method fault number named same = absurd (let none = subst (λ f. faulty_method f ≡ Some number) same named in cc)

pub names_fault : (program : Program) (fault : VerifyFault) (number : ℕ) (method : Method) → faulty_method fault ≡ Some number → slice_get program.methods number ≡ Some method → IsFirstFault program fault → NamesFault program fault (faults.Verify (method_name program method) fault)
names_fault program fault number method named there first =
    subst (λ m. NamesFault program fault (faults.Verify (method_name program m) fault)) (sym (named_is program fault number method named there first)) (NamesFault.of first)

-- first faults that name methods are of one method
pub same_method : (program : Program) (fault : VerifyFault) (one two : IsFirstFault program fault) → one.body.method ≡ two.body.method
same_method program fault one two =
    named_is program fault two.number one.body.method (named_number two.body two.number fault two.is)
    (found_there program fault two.number (named_number two.body two.number fault two.is) one) two
