-- Functions in the order of their names.
use Rattle.std.proofs.Common.{◌≡◌, ◌⊎◌, inl, inr, ℕ, zero, suc, ◌<◌, List, [], ◌∷◌, length, map, get_or, Contains, refl, ap, subst, sym, ◌∙◌, arith}
use Rattle.std.proofs.lemmas.List.Sorted.{IsPermutation-sym, Contains-permutation}
use Rattle.std.proofs.lemmas.List.{get_or-map, length-map}
use Rattle.std.specs.Cmp.Lexicographic.{slice_cmp}
use Rattle.std.specs.Ordering.{nat_cmp}
use Rattle.std.specs.declared.cmp.Ordering.TheVariants.{Equal}
use Rattle.std.proofs.lemmas.Cmp.{nat_list_cmp_total, tied_itself}
use Rattle.cc_meaning.specs.Order.{IsBefore, IsRising}
use Rattle.cc_meaning_plain.specs.declared.plain.PlainFunction.{PlainFunction}
use Rattle.cc_meaning_plain.specs.Plain.{name_of}
use Rattle.cc_meaning_plain.specs.Laws.{OrderOnce}

not_before_itself : (name : List ℕ) → IsBefore name name → ⊥
not_before_itself name less =
    let same : slice_cmp nat_cmp name name ≡ Equal = tied_itself nat_list_cmp_total name in
    absurd cc

rising_rest : (x : PlainFunction) (xs : List PlainFunction) → IsRising (map name_of (x ∷ xs)) → IsRising (map name_of xs)
rising_rest x xs rise i j d below within = rise (suc i) (suc j) d (omega arith) (omega arith)

-- the first comes before each later one
first_before : (x : PlainFunction) (xs : List PlainFunction) (y : PlainFunction) → IsRising (map name_of (x ∷ xs)) → Contains xs y → IsBefore x.name y.name
first_before x xs y rise h =
    let within : h.0 < length (map name_of xs) = omega (arith, h.1, length-map xs name_of) in
    let before = rise zero (suc h.0) x.name (omega arith) (omega (arith, within)) in
    let there : get_or (map name_of xs) h.0 x.name ≡ name_of (get_or xs h.0 y) = get_or-map name_of xs h.0 y x.name h.1 in
    subst (IsBefore x.name) (there ∙ ap name_of h.2) before

-- the first, or one of the others
abbrev head_or_rest : PlainFunction → List PlainFunction → PlainFunction → Type 0
head_or_rest x xs y = (x ≡ y) ⊎ Contains xs y

parts : (x : PlainFunction) (xs : List PlainFunction) (y : PlainFunction) → Contains (x ∷ xs) y → head_or_rest x xs y
parts x xs y (zero, within, is) = inl is
parts x xs y (suc k, within, is) = inr (k, omega arith, is)

behind_contains : (x : PlainFunction) (xs : List PlainFunction) (y : PlainFunction) → Contains xs y → Contains (x ∷ xs) y
behind_contains x xs y h = (suc h.0, omega (arith, h.1), h.2)

one_first : (x : PlainFunction) (xs : List PlainFunction) (y : PlainFunction) (ys : List PlainFunction) → IsRising (map name_of (x ∷ xs)) → IsRising (map name_of (y ∷ ys)) →
    head_or_rest x xs y → head_or_rest y ys x → x ≡ y
one_first x xs y ys rise_x rise_y (inl same) other = same
one_first x xs y ys rise_x rise_y (inr there) (inl same) = sym same
one_first x xs y ys rise_x rise_y (inr there) (inr here) =
    absurd (not_before_itself x.name (nat_list_cmp_total.trans x.name y.name x.name (first_before x xs y rise_x there) (first_before y ys x rise_y here)))

-- what stands behind the first in one stands behind it in the other
rest_contains : (x : PlainFunction) (xs : List PlainFunction) (y : PlainFunction) (ys : List PlainFunction) → IsRising (map name_of (x ∷ xs)) → x ≡ y →
    ((z : PlainFunction) → Contains (x ∷ xs) z → Contains (y ∷ ys) z) → (z : PlainFunction) → Contains xs z → Contains ys z
rest_contains x xs y ys rise e to z h = from (parts y ys z (to z (behind_contains x xs z h)))
  where
    from : head_or_rest y ys z → Contains ys z
    from (inl same) = absurd (not_before_itself x.name (subst (λ (f : PlainFunction). IsBefore x.name f.name) (sym (e ∙ same)) (first_before x xs z rise h)))
    from (inr there) = there

one_order : (xs ys : List PlainFunction) → IsRising (map name_of xs) → IsRising (map name_of ys) →
    ((z : PlainFunction) → Contains xs z → Contains ys z) → ((z : PlainFunction) → Contains ys z → Contains xs z) → xs ≡ ys
one_order [] [] rise_x rise_y to back = refl
one_order [] (y ∷ ys) rise_x rise_y to back = absurd (omega (arith, (back y (zero, omega arith, refl)).1))
one_order (x ∷ xs) [] rise_x rise_y to back = absurd (omega (arith, (to x (zero, omega arith, refl)).1))
one_order (x ∷ xs) (y ∷ ys) rise_x rise_y to back =
    let first : x ≡ y = one_first x xs y ys rise_x rise_y (parts x xs y (back y (zero, omega arith, refl))) (parts y ys x (to x (zero, omega arith, refl))) in
    let rest = one_order xs ys (rising_rest x xs rise_x) (rising_rest y ys rise_y) (rest_contains x xs y ys rise_x first to) (rest_contains y ys x xs rise_y (sym first) back) in
    cc

pub order_once : OrderOnce
order_once first second same rise_first rise_second =
    one_order first second rise_first rise_second (λ z h. Contains-permutation first second z same h) (λ z h. Contains-permutation second first z (IsPermutation-sym first second same) h)
