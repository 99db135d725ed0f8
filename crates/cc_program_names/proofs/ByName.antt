-- A binary search in classes whose names rise finds the first class of a name.
use Rattle.std.proofs.Common.{◌≡◌, ◌≢◌, ℕ, ◌<◌, ◌≤◌, List, [], ◌∷◌, length, Some, None, Bool, true, false, position, refl, sym, ◌∙◌, ap, subst, ◌⊎◌, ⊎_elim, arith, slice_index_or}
use Rattle.std.specs.List.{position_or_len, HoldsAt, All}
use Rattle.std.specs.List.Sorted.{IsNonDecreasingBy}
use Rattle.std.specs.Str.{bytes_eq}
use Rattle.std.specs.Cmp.Lexicographic.{slice_cmp}
use Rattle.std.specs.Ordering.{nat_cmp, ordering_index, ordering_reverse, is_eq}
use Rattle.std.specs.declared.cmp.Ordering.{Ordering}
use Rattle.std.specs.declared.cmp.Ordering.TheVariants.{Less, Equal, Greater}
use Rattle.std.proofs.lemmas.Cmp.{nat_list_cmp_total}
use Rattle.std.proofs.lemmas.Map.Text.{is_eq-slice_cmp}
use Rattle.std.proofs.lemmas.List.Sums.{position_or_len_is}
use Rattle.cc_meaning.specs.declared.program.Class.{Class}
use Rattle.cc_meaning.specs.Order.{IsRisingByName}

at_most_two : (r : Ordering) → ordering_index r ≤ 2
at_most_two Less = omega arith
at_most_two Equal = omega arith
at_most_two Greater = omega arith

-- what is below a name's equal is below the name
below_equal : (a b n : List ℕ) → slice_cmp nat_cmp a b ≡ Less → slice_cmp nat_cmp b n ≡ Equal → slice_cmp nat_cmp a n ≡ Less
below_equal a b n h e =
    let e1 : slice_cmp nat_cmp n b ≡ Equal = nat_list_cmp_total.antisymm n b ∙ ap ordering_reverse e in
    let e2 : slice_cmp nat_cmp n a ≡ slice_cmp nat_cmp b a = nat_list_cmp_total.congr n b a e1 in
    let e3 : slice_cmp nat_cmp b a ≡ Greater = nat_list_cmp_total.antisymm b a ∙ ap ordering_reverse h in
    nat_list_cmp_total.antisymm a n ∙ ap ordering_reverse (e2 ∙ e3)

index_rises : (a b n : List ℕ) → slice_cmp nat_cmp a b ≡ Less → (r : Ordering) → slice_cmp nat_cmp b n ≡ r → ordering_index (slice_cmp nat_cmp a n) ≤ ordering_index r
index_rises a b n h Less e = rw (nat_list_cmp_total.trans a b n h e) (omega arith)
index_rises a b n h Equal e = rw (below_equal a b n h e) (omega arith)
index_rises a b n h Greater e = at_most_two (slice_cmp nat_cmp a n)

pub below_or_same : (i j : ℕ) → i ≤ j → (i < j) ⊎ (i ≡ j)
below_or_same i j h = grind arith

pub rises_by_index : (classes : List Class) (name : List ℕ) → IsRisingByName classes → IsNonDecreasingBy (λ (c : Class). ordering_index (slice_cmp nat_cmp c.name name)) classes
rises_by_index classes name sorted i j d h below =
    let at : ℕ → ℕ = λ k. ordering_index (slice_cmp nat_cmp (slice_index_or classes k d).name name) in
    ⊎_elim (λ (less : i < j). index_rises (slice_index_or classes i d).name (slice_index_or classes j d).name name (sorted i j d less below) _ refl)
    (λ (same : i ≡ j). let P : ℕ → Type 0 = λ k. at i ≤ at k in subst P same (omega arith)) (below_or_same i j h)

is_named : (c n : List ℕ) → slice_cmp nat_cmp c n ≡ Equal → bytes_eq c n ≡ true
is_named c n e = sym (is_eq-slice_cmp c n) ∙ ap is_eq e

is_other : (c n : List ℕ) (r : Ordering) → slice_cmp nat_cmp c n ≡ r → r ≢ Equal → bytes_eq c n ≡ false
is_other c n Less e h = sym (is_eq-slice_cmp c n) ∙ ap is_eq e
is_other c n Equal e h = absurd (h refl)
is_other c n Greater e h = sym (is_eq-slice_cmp c n) ∙ ap is_eq e

place_found : {X : Type 0} (p : X → Bool) (xs : List X) (i : ℕ) → position_or_len p xs ≡ i → i < length xs → position p xs ≡ Some i
place_found p xs i e h = grind (arith, e, h)

place_absent : {X : Type 0} (p : X → Bool) (xs : List X) → position_or_len p xs ≡ length xs → position p xs ≡ None
place_absent p xs e = grind (arith, e)

pub found_is_position : (classes : List Class) (name : List ℕ) (at : ℕ) → IsRisingByName classes → at < length classes → HoldsAt (λ (c : Class). slice_cmp nat_cmp c.name name ≡ Equal) classes at → position (λ (c : Class). bytes_eq c.name name) classes ≡ Some at
found_is_position [] name at sorted below equal = absurd (omega arith)
found_is_position (x ∷ xs) name at sorted below equal =
    let test : Class → Bool = λ c. bytes_eq c.name name in
    let place : position_or_len test (x ∷ xs) ≡ at = position_or_len_is test (x ∷ xs) at x (omega arith)
    (λ k h. is_other _ name Less (below_equal _ _ name (sorted k at x h below) (equal x)) (λ same. cc))
    (λ h. is_named _ name (equal x)) in
    place_found test (x ∷ xs) at place below

pub absent_is_position : (classes : List Class) (name : List ℕ) → All (λ (c : Class). slice_cmp nat_cmp c.name name ≢ Equal) classes → position (λ (c : Class). bytes_eq c.name name) classes ≡ None
absent_is_position [] name other = refl
absent_is_position (x ∷ xs) name other =
    let test : Class → Bool = λ c. bytes_eq c.name name in
    place_absent test (x ∷ xs) (position_or_len_is test (x ∷ xs) (length (x ∷ xs)) x (omega arith)
    (λ k h. is_other _ name _ refl (other k x h))
    (λ h. absurd (omega arith)))

-- the first element that passes, where none before it does
pub first_is_position : {X : Type 0} (p : X → Bool) (xs : List X) (at : ℕ) (d : X) → at < length xs → ((k : ℕ) → k < at → p (slice_index_or xs k d) ≡ false) → p (slice_index_or xs at d) ≡ true → position p xs ≡ Some at
first_is_position p xs at d below none here = place_found p xs at (position_or_len_is p xs at d (omega arith) none (λ h. here)) below

pub none_is_position : {X : Type 0} (p : X → Bool) (xs : List X) → ((k : ℕ) (d : X) → k < length xs → p (slice_index_or xs k d) ≡ false) → position p xs ≡ None
none_is_position p [] none = refl
none_is_position p (x ∷ xs) none = place_absent p (x ∷ xs) (position_or_len_is p (x ∷ xs) (length (x ∷ xs)) x (omega arith) (λ k h. none k x h) (λ h. absurd (omega arith)))
