-- Built-in methods by what their class is, and by their places.
use Rattle.std.proofs.Common.{◌≡◌, true, false, ℕ, ◌<◌, List, [], length, get_or, Option, Some, None, refl, sym, ap, ◌∙◌, ltb, Bor, arith}
use Rattle.std.specs.Prelude.{slice_get, is_some, IfSome}
use Rattle.std.specs.Option.{option_copied}
use Rattle.std.proofs.lemmas.Bool.Decides.{nat_tests}
use Rattle.std.proofs.lemmas.Option.{slice_get_past, slice_get-get_or}
use Rattle.cc_meaning.specs.declared.program.ClassKind.{ClassKind}
use Rattle.cc_meaning.specs.declared.program.ClassKind.TheVariants as kinds
use Rattle.cc_built_in.specs.Listed.{AreMethods}
use Rattle.cc_built_in.specs.declared.table.ListedMethod.{ListedMethod}
use Rattle.cc_meaning_program.specs.OwnMembers.{built_in_by_kind}

-- other classes list none
pub none_listed : (kind : ClassKind) (class : List ℕ) → (kind ≡ kinds.BuiltIn → ⊥) → (kind ≡ kinds.Array → ⊥) → AreMethods class [] (built_in_by_kind kind class)
unfolding built_in_by_kind
none_listed kinds.File class not_built_in not_array = record { methods = refl; members = refl; few = omega arith }
none_listed kinds.BuiltIn class not_built_in not_array = absurd (not_built_in refl)
none_listed kinds.Outside class not_built_in not_array = record { methods = refl; members = refl; few = omega arith }
none_listed kinds.OutsideError class not_built_in not_array = record { methods = refl; members = refl; few = omega arith }
none_listed kinds.Array class not_built_in not_array = absurd (not_array refl)

-- what a look-up lends is what stands there
pub looked_up : (o : Option (Bor ListedMethod)) (methods : List ListedMethod) (k : ℕ) → is_some o ≡ ltb k (length methods) → IfSome o (λ x. x.now ≡ get_or methods k x.now) → option_copied o ≡ slice_get methods k
looked_up None methods k test is = sym (slice_get_past methods k (let e : false ≡ ltb k (length methods) = test in grind (arith, nat_tests)))
looked_up (Some x) methods k test is =
    let within : k < length methods = (let e : true ≡ ltb k (length methods) = test in grind (arith, nat_tests)) in
    let there : slice_get methods k ≡ Some (get_or methods k x.now) = slice_get-get_or methods k x.now within in
    ap Some is ∙ sym there
