-- What a binary search finds among things that rise by their names.
use Rattle.std.proofs.Common.{◌≡◌, ◌⊎◌, inl, inr, ℕ, ◌+◌, ◌<◌, ◌≤◌, List, length, map, get_or, Some, slice_get, sym, ap, subst, ◌∙◌, arith}
use Rattle.std.specs.Prelude.{Contains}
use Rattle.std.specs.List.{HoldsAt}
use Rattle.std.specs.List.Sorted.{IsSortedBy, IsNonDecreasingBy, IsPartitionPoint}
use Rattle.std.specs.Cmp.Lexicographic.{slice_cmp}
use Rattle.std.specs.Ordering.{nat_cmp, is_lt, ordering_index, ordering_reverse}
use Rattle.std.specs.declared.cmp.Ordering.TheVariants.{Less, Equal, Greater}
use Rattle.std.proofs.lemmas.Bool.{cases_lt}
use Rattle.std.proofs.lemmas.Cmp.{nat_list_cmp_total, tied_itself}
use Rattle.std.proofs.lemmas.List.{length-map, get_or-map}
use Rattle.std.proofs.lemmas.List.Sorted.{searchable_from_sorted}
use Rattle.std.proofs.lemmas.Map.Lookups.{exact_bytes}
use Rattle.std.proofs.lemmas.Option.{slice_get-get_or}
use Rattle.cc_meaning.specs.Order.{IsRising}
use Rattle.cc_members.proofs.Listing.{slice_get_map}

module _ {A : Type 0} (text : A → List ℕ) (among : List A) (name : List ℕ) (some : A) where
  pub found_there : (place : ℕ) → place < length among → HoldsAt (λ x. slice_cmp nat_cmp (text x) name ≡ Equal) among place → slice_get (map text among) place ≡ Some name
  found_there place within equal =
      slice_get_map text among place (get_or among place some) (slice_get-get_or among place some within) ∙ ap Some (exact_bytes (text (get_or among place some)) name (equal some))

  sorted_from : IsRising (map text among) → IsSortedBy (λ a b. is_lt (slice_cmp nat_cmp (text a) (text b))) among
  sorted_from rise k d low within =
      let inside : k + 1 < length (map text among) = omega (arith, within, length-map among text) in
      let less = rise k (k + 1) (text d) (omega arith) inside in
      let first = get_or-map text among k d (text d) (omega (arith, within)) in
      let second = get_or-map text among (k + 1) d (text d) (omega (arith, within)) in
      let before = subst (λ a. slice_cmp nat_cmp a (text (get_or among (k + 1) d)) ≡ Less) first (subst (λ b. slice_cmp nat_cmp (get_or (map text among) k (text d)) b ≡ Less) second less) in
      ap is_lt (nat_list_cmp_total.antisymm (text (get_or among (k + 1) d)) (text (get_or among k d)) ∙ ap ordering_reverse before)

  nowhere : (end : ℕ) → IsPartitionPoint (λ x. slice_cmp nat_cmp (text x) name ≡ Less) (λ x. slice_cmp nat_cmp (text x) name ≡ Greater) among end →
      (k : ℕ) → k < length among → slice_cmp nat_cmp (text (get_or among k some)) name ≡ Equal → (k < end) ⊎ (end ≤ k) → ⊥
  nowhere end parted k within equal (inl below) = absurd (let e : Equal ≡ Less = sym equal ∙ parted.0 k some (omega arith) below in cc)
  nowhere end parted k within equal (inr above) = absurd (let e : Equal ≡ Greater = sym equal ∙ parted.1 k some above within in cc)

  pub found_nowhere : (end : ℕ) → IsRising (map text among) →
      (IsNonDecreasingBy (λ x. ordering_index (slice_cmp nat_cmp (text x) name)) among → IsPartitionPoint (λ x. slice_cmp nat_cmp (text x) name ≡ Less) (λ x. slice_cmp nat_cmp (text x) name ≡ Greater) among end) →
      Contains (map text among) name → ⊥
  found_nowhere end rise told (k, within, is) =
      let parted = told (searchable_from_sorted nat_list_cmp_total text among name (sorted_from rise)) in
      let inside : k < length among = omega (arith, within, length-map among text) in
      let same : text (get_or among k some) ≡ name = sym (get_or-map text among k some name inside) ∙ is in
      nowhere end parted k inside (subst (λ n. slice_cmp nat_cmp n name ≡ Equal) (sym same) (tied_itself nat_list_cmp_total name)) (cases_lt k end)
