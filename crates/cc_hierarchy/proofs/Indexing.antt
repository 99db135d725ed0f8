-- Numbers in the order of their names: what a sort leaves, and what a search finds.
use Rattle.std.proofs.Common.{◌≡◌, ◌≢◌, ◌⊎◌, inl, inr, ℕ, zero, suc, ◌+◌, ◌-◌, ◌<◌, ◌≤◌, true, false, not, ◌&&◌, List, length, get_or, ltb, eqb, Some, slice_get, refl, ap, subst, sym, ◌∙◌, arith}
use Rattle.std.specs.Prelude.{Contains, AllPairs}
use Rattle.std.specs.Cmp.Lexicographic.{slice_cmp}
use Rattle.std.specs.Ordering.{nat_cmp, is_lt}
use Rattle.std.specs.List.{range_with_len}
use Rattle.std.specs.List.Sorted.{IsPermutation, IsSortedBy, IsStableBy, IsPartitionPoint, IsPartitionedBy}
use Rattle.std.proofs.lemmas.Bool.{cases_lt}
use Rattle.std.proofs.lemmas.Bool.Decides.{Decides-eqb, nat_tests}
use Rattle.std.proofs.lemmas.List.FromFn.{get_or-range_with_len, length-range_with_len}
use Rattle.std.proofs.lemmas.List.Sorted.{Contains-permutation, IsPermutation-sym, IsStrictWeakOrder-by_number, sorted_far, ties_stay_sorted}
use Rattle.std.proofs.lemmas.Map.Keys.{IsDistinct-IsPermutation}
use Rattle.std.proofs.lemmas.Map.Made.{AllPairs-from_IsDistinct, IsDistinct-from_AllPairs}
use Rattle.std.proofs.lemmas.Option.{slice_get_within, get_or_from_slice_get}
use Rattle.cc_hierarchy.specs.Indexes.{IsIndex, comes_before}
use Rattle.cc_hierarchy.proofs.NameOrder.{neither, before_too, not_less_itself, no_less_itself, weak_order}

-- ---- what a sort leaves

range_at : (count k d : ℕ) → k < count → get_or (range_with_len 0 count) k d ≡ k
range_at count k d below = get_or-range_with_len 0 count k d below ∙ (let e : 0 + k ≡ k = omega arith in e)

range_rises : (count : ℕ) → IsSortedBy (λ x y. ltb x y) (range_with_len 0 count)
range_rises count k d low within =
    let inside : k + 1 < count = omega (arith, within, length-range_with_len 0 count) in
    rw (range_at count (k + 1) d inside, range_at count k d (omega arith)) (grind arith)

range_apart : (count : ℕ) → AllPairs (λ x y. x ≢ y) (range_with_len 0 count)
range_apart count i j d below within e =
    let inside : j < count = omega (arith, within, length-range_with_len 0 count) in
    let same : i ≡ j = sym (range_at count i d (omega arith)) ∙ e ∙ range_at count j d inside in
    omega arith

eqb_comm : (x y : ℕ) → eqb x y ≡ eqb y x
eqb_comm x y = grind (arith, nat_tests)

moved_apart : (count : ℕ) (order : List ℕ) → IsPermutation (range_with_len 0 count) order → AllPairs (λ x y. x ≢ y) order
moved_apart count order moved =
    AllPairs-from_IsDistinct Decides-eqb order
    (IsDistinct-IsPermutation eqb eqb_comm (range_with_len 0 count) order moved (IsDistinct-from_AllPairs Decides-eqb (range_with_len 0 count) (range_apart count)))

pub index_sorted : (name_of : ℕ → List ℕ) (count : ℕ) (start order : List ℕ) → start ≡ range_with_len 0 count → IsPermutation start order → IsSortedBy (comes_before name_of) order →
    IsStableBy (comes_before name_of) start order → IsIndex name_of count order
index_sorted name_of count start order is moved up stable = record {
  all = all;
  sorted = up;
  tied = λ k d within same.
      let e : name_of (get_or order k d) ≡ name_of (get_or order (k + 1) d) = same in
      let kept = ties_stay_sorted (λ x y. ltb x y) (comes_before name_of) (IsStrictWeakOrder-by_number (λ x. x)) (weak_order name_of) start order
      (subst (IsSortedBy (λ x y. ltb x y)) (sym is) (range_rises count)) stable k d within (tie (get_or order k d) (get_or order (k + 1) d) e) in
      let apart : get_or order k d ≢ get_or order (k + 1) d = moved_apart count order all k (k + 1) d (omega arith) within in
      grind (arith, kept, apart);
}
  where
    all : IsPermutation (range_with_len 0 count) order
    all = subst (λ s. IsPermutation s order) is moved

    tie : (x y : ℕ) → name_of x ≡ name_of y → (not (comes_before name_of x y) && not (comes_before name_of y x)) ≡ true
    tie x y e = rw (not_less_itself (name_of x) (name_of y) e, not_less_itself (name_of y) (name_of x) (sym e)) refl

-- ---- what an index has

module _ (name_of : ℕ → List ℕ) (count : ℕ) (order : List ℕ) (index : IsIndex name_of count order) where
  pub index_holds : (number : ℕ) → number < count → Contains order number
  index_holds number below =
      let first : Contains (range_with_len 0 count) number = (number, omega (arith, below, length-range_with_len 0 count), range_at count number number below) in
      Contains-permutation (range_with_len 0 count) order number index.all first

  pub index_within : (number : ℕ) → Contains order number → number < count
  index_within number held =
      let first : Contains (range_with_len 0 count) number = Contains-permutation order (range_with_len 0 count) number (IsPermutation-sym (range_with_len 0 count) order index.all) held in
      let inside : first.0 < count = omega (arith, first.1, length-range_with_len 0 count) in
      let same : first.0 ≡ number = sym (range_at count first.0 number inside) ∙ first.2 in
      omega arith

  no_later_first : (i j d : ℕ) → i ≤ j → j < length order → is_lt (slice_cmp nat_cmp (name_of (get_or order j d)) (name_of (get_or order i d))) ≡ false
  no_later_first i j d below within = sorted_far (comes_before name_of) (weak_order name_of) order index.sorted i j d below within

  pub same_between : (i m j d : ℕ) → i ≤ m → m ≤ j → j < length order → name_of (get_or order i d) ≡ name_of (get_or order j d) → name_of (get_or order i d) ≡ name_of (get_or order m d)
  same_between i m j d low high within same =
      neither (name_of (get_or order i d)) (name_of (get_or order m d))
      (subst (λ n. is_lt (slice_cmp nat_cmp n (name_of (get_or order m d))) ≡ false) (sym same) (no_later_first m j d high within))
      (no_later_first i m d low (omega arith))

  pub tied_far : (n i j d : ℕ) → j ≡ i + n → j < length order → name_of (get_or order i d) ≡ name_of (get_or order j d) → get_or order i d ≤ get_or order j d
  tied_far zero i j d is within same =
      let e : i ≡ j = omega arith in
      subst (λ k. get_or order i d ≤ get_or order k d) e (omega arith)
  tied_far (suc n) i j d is within same =
      let next : i + n + 1 ≡ j = omega arith in
      let mid : name_of (get_or order i d) ≡ name_of (get_or order (i + n) d) = same_between i (i + n) j d (omega arith) (omega arith) within same in
      let step : name_of (get_or order (i + n) d) ≡ name_of (get_or order (i + n + 1) d) = sym mid ∙ same ∙ ap (λ k. name_of (get_or order k d)) (sym next) in
      let less : get_or order (i + n) d < get_or order (i + n + 1) d = index.tied (i + n) d (omega arith) step in
      let far : get_or order i d ≤ get_or order (i + n) d = tied_far n i (i + n) d refl (omega arith) mid in
      let last : get_or order (i + n + 1) d ≡ get_or order j d = ap (λ k. get_or order k d) next in
      omega arith

  pub parted : (name : List ℕ) → IsPartitionedBy (λ n. is_lt (slice_cmp nat_cmp (name_of n) name)) order
  parted name i j d below within less = before_too (name_of (get_or order j d)) (name_of (get_or order i d)) name less (no_later_first i j d below within)

-- ---- what a search finds

module _ (name_of : ℕ → List ℕ) (count : ℕ) (order : List ℕ) (index : IsIndex name_of count order) (name : List ℕ) (place : ℕ)
    (point : IsPartitionPoint (λ n. is_lt (slice_cmp nat_cmp (name_of n) name) ≡ true) (λ n. is_lt (slice_cmp nat_cmp (name_of n) name) ≡ false) order place) where
  -- a number of this name stands at the place or behind it
  stands : (number : ℕ) → number < count → name_of number ≡ name → (k : ℕ) × (place ≤ k) × (k < length order) × (get_or order k number ≡ number)
  stands number below named = from (index_holds name_of count order index number below)
    where
      from : Contains order number → (k : ℕ) × (place ≤ k) × (k < length order) × (get_or order k number ≡ number)
      from (k, within, is) = cases (cases_lt k place)
        where
          cases : (k < place) ⊎ (place ≤ k) → (k : ℕ) × (place ≤ k) × (k < length order) × (get_or order k number ≡ number)
          cases (inr behind) = (k, behind, within, is)
          cases (inl before) = absurd (no_less_itself (name_of number) name named (subst (λ n. is_lt (slice_cmp nat_cmp (name_of n) name) ≡ true) is (point.0 k number (omega arith) before)))

  pub found_first : (number : ℕ) → slice_get order place ≡ Some number → name_of number ≡ name → (earlier : ℕ) → earlier < number → earlier < count → name_of earlier ≢ name
  found_first number there named earlier before below other_named = from (stands earlier below other_named)
    where
      from : (k : ℕ) × (place ≤ k) × (k < length order) × (get_or order k earlier ≡ earlier) → ⊥
      from (k, behind, within, is) =
          let here : get_or order place earlier ≡ number = get_or_from_slice_get order place number earlier there in
          let same : name_of (get_or order place earlier) ≡ name_of (get_or order k earlier) = ap name_of here ∙ named ∙ sym other_named ∙ ap name_of (sym is) in
          let far : get_or order place earlier ≤ get_or order k earlier = tied_far name_of count order index (k - place) place k earlier (omega arith) within same in
          omega arith

  pub found_number : (number : ℕ) → slice_get order place ≡ Some number → number < count
  found_number number there =
      index_within name_of count order index number (place, slice_get_within order place number there, get_or_from_slice_get order place number number there)

  pub none_behind : length order ≤ place → (number : ℕ) → number < count → name_of number ≢ name
  none_behind past number below named = from (stands number below named)
    where
      from : (k : ℕ) × (place ≤ k) × (k < length order) × (get_or order k number ≡ number) → ⊥
      from (k, behind, within, is) = omega arith

  pub none_here : (other : ℕ) → slice_get order place ≡ Some other → name_of other ≢ name → (number : ℕ) → number < count → name_of number ≢ name
  none_here other there differs number below named = from (stands number below named)
    where
      from : (k : ℕ) × (place ≤ k) × (k < length order) × (get_or order k number ≡ number) → ⊥
      from (k, behind, within, is) =
          let here : get_or order place number ≡ other = get_or_from_slice_get order place other number there in
          let not_before : is_lt (slice_cmp nat_cmp (name_of other) name) ≡ false =
          subst (λ n. is_lt (slice_cmp nat_cmp (name_of n) name) ≡ false) here (point.1 place number (omega arith) (omega arith)) in
          let not_behind : is_lt (slice_cmp nat_cmp (name_of (get_or order k number)) (name_of (get_or order place number))) ≡ false =
          sorted_far (comes_before name_of) (weak_order name_of) order index.sorted place k number behind within in
          let turned : is_lt (slice_cmp nat_cmp name (name_of other)) ≡ false =
          subst (λ n. is_lt (slice_cmp nat_cmp n (name_of other)) ≡ false) (ap name_of is ∙ named)
          (subst (λ n. is_lt (slice_cmp nat_cmp (name_of (get_or order k number)) (name_of n)) ≡ false) here not_behind) in
          differs (neither (name_of other) name not_before turned)
