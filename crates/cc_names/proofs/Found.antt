-- What a binary search finds among names that rise.
use Rattle.std.proofs.Common.{◌≡◌, ◌⊎◌, inl, inr, ℕ, ◌+◌, ◌<◌, ◌≤◌, List, [], length, get_or, Some, slice_get, sym, ap, subst, ◌∙◌, arith}
use Rattle.std.specs.Prelude.{Contains}
use Rattle.std.specs.List.{HoldsAt}
use Rattle.std.specs.List.Sorted.{IsSortedBy, IsNonDecreasingBy, IsPartitionPoint}
use Rattle.std.specs.Cmp.Lexicographic.{slice_cmp}
use Rattle.std.specs.Ordering.{nat_cmp, is_lt, ordering_index, ordering_reverse}
use Rattle.std.specs.declared.cmp.Ordering.TheVariants.{Less, Equal, Greater}
use Rattle.std.proofs.lemmas.Bool.{cases_lt}
use Rattle.std.proofs.lemmas.Cmp.{nat_list_cmp_total, tied_itself}
use Rattle.std.proofs.lemmas.List.Sorted.{searchable_from_sorted}
use Rattle.std.proofs.lemmas.Map.Lookups.{exact_bytes}
use Rattle.std.proofs.lemmas.Option.{slice_get-get_or}
use Rattle.cc_meaning.specs.Order.{IsRising}

pub found_there : (names : List (List ℕ)) (name : List ℕ) (place : ℕ) → place < length names → HoldsAt (λ n. slice_cmp nat_cmp n name ≡ Equal) names place → slice_get names place ≡ Some name
found_there names name place within equal = slice_get-get_or names place [] within ∙ ap Some (exact_bytes (get_or names place []) name (equal []))

sorted_from : (names : List (List ℕ)) → IsRising names → IsSortedBy (λ a b. is_lt (slice_cmp nat_cmp a b)) names
sorted_from names rise k d low within =
    let less = rise k (k + 1) d (omega arith) within in
    ap is_lt (nat_list_cmp_total.antisymm (get_or names (k + 1) d) (get_or names k d) ∙ ap ordering_reverse less)

nowhere : (names : List (List ℕ)) (name : List ℕ) (end : ℕ) → IsPartitionPoint (λ n. slice_cmp nat_cmp n name ≡ Less) (λ n. slice_cmp nat_cmp n name ≡ Greater) names end →
    (k : ℕ) → k < length names → slice_cmp nat_cmp (get_or names k name) name ≡ Equal → (k < end) ⊎ (end ≤ k) → ⊥
nowhere names name end parted k within equal (inl below) = absurd (let e : Equal ≡ Less = sym equal ∙ parted.0 k name (omega arith) below in cc)
nowhere names name end parted k within equal (inr above) = absurd (let e : Equal ≡ Greater = sym equal ∙ parted.1 k name above within in cc)

pub found_nowhere : (names : List (List ℕ)) (name : List ℕ) (end : ℕ) → IsRising names →
    (IsNonDecreasingBy (λ n. ordering_index (slice_cmp nat_cmp n name)) names → IsPartitionPoint (λ n. slice_cmp nat_cmp n name ≡ Less) (λ n. slice_cmp nat_cmp n name ≡ Greater) names end) →
    Contains names name → ⊥
found_nowhere names name end rise told (k, within, is) =
    let parted = told (searchable_from_sorted nat_list_cmp_total (λ (n : List ℕ). n) names name (sorted_from names rise)) in
    let equal : slice_cmp nat_cmp (get_or names k name) name ≡ Equal = subst (λ n. slice_cmp nat_cmp n name ≡ Equal) (sym is) (tied_itself nat_list_cmp_total name) in
    nowhere names name end parted k within equal (cases_lt k end)
