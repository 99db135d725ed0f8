-- Things in the order of their names, once what goes with them is left out.
use Rattle.std.proofs.Common.{◌≡◌, ℕ, List, [], ◌∷◌, map, refl, sym, ap, subst, ◌∙◌, arith}
use Rattle.std.specs.Prelude.{Contains}
use Rattle.std.proofs.lemmas.List.{length-map}
use Rattle.cc_meaning.specs.Order.{IsRising}
use Rattle.cc_meaning_program.specs.Searches.{First}
use Rattle.cc_names.specs.InOrder.{AreInOrder}
use Rattle.cc_names.proofs.Ordered.{contains_mapped, mapped_from}
use Rattle.cc_members.specs.FirstInOrder.{AreFirst}
use Rattle.cc_members.proofs.Ordered.{contains_head, contains_tail}

-- the same names, where each thing has the name of what it goes with
pub same_names : {A B : Type 0} (part : A → B) (name : A → List ℕ) (part_name : B → List ℕ) (xs : List A) → ((x : A) → Contains xs x → name x ≡ part_name (part x)) → map name xs ≡ map part_name (map part xs)
same_names part name part_name [] same = refl
same_names part name part_name (x ∷ xs) same =
    ap (λ n. n ∷ map name xs) (same x (contains_head x xs)) ∙ ap (λ ns. part_name (part x) ∷ ns) (same_names part name part_name xs (λ y there. same y (contains_tail x xs y there)))

-- what is first among things is first among the parts of them
pub first_part : {A B : Type 0} {is_so : A → Type 0} {such : B → Type 0} (part : A → B) (xs : List A) (x : A) → First is_so xs x → such (part x) → ((y : A) → Contains xs y → such (part y) → is_so y) → First such (map part xs) (part x)
first_part part _ x (First.here so) here back = First.here here
first_part {A} {B} {is_so} {such} part _ x (First.later {x = y} {xs = tail} not rest) here back =
    First.later (λ (yes : such (part y)). not (back y (contains_head y tail) yes)) (first_part part tail x rest here (λ z there. back z (contains_tail y tail z there)))

module _ {A B : Type 0} (part : A → B) (name : A → List ℕ) (part_name : B → List ℕ) (given sorted : List A) (same : (x : A) → Contains given x → name x ≡ part_name (part x)) where
  pub parts_in_order : AreInOrder name given sorted → AreInOrder part_name (map part given) (map part sorted)
  parts_in_order are = record {
    rise = subst IsRising (same_names part name part_name sorted (λ x there. same x (are.among x there))) are.rise;
    among = λ y there. let (x, here, is) = mapped_from part sorted y there in subst (Contains (map part given)) is (contains_mapped part given x (are.among x here));
    named = λ y there. let (x, here, is) = mapped_from part given y there in
        subst (λ names. Contains names (part_name y)) (same_names part name part_name sorted (λ z in_sorted. same z (are.among z in_sorted)))
        (subst (Contains (map name sorted)) (same x here ∙ ap part_name is) (are.named x here));
    few = omega (arith, are.few, length-map given part, length-map sorted part);
  }

  pub parts_first : AreInOrder name given sorted → AreFirst name given sorted → AreFirst part_name (map part given) (map part sorted)
  parts_first are first y there =
      let (x, here, is) = mapped_from part sorted y there in
      subst (λ (z : B). First (λ (other : B). part_name other ≡ part_name z) (map part given) z) is
      (first_part part given x (first x here) refl (λ z in_given e. same z in_given ∙ (e ∙ sym (same x (are.among x here)))))
