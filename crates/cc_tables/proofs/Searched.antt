-- What a binary search finds among things that rise by their keys, and that such things stand once.
use Rattle.std.proofs.Common.{◌≡◌, ◌⊎◌, inl, inr, ℕ, zero, suc, ◌+◌, ◌<◌, ◌≤◌, List, [], ◌∷◌, length, map, get_or, Option, Some, None, slice_get, refl, sym, ap, subst, ◌∙◌, arith}
use Rattle.std.specs.Prelude.{AllPairs, Contains}
use Rattle.std.specs.List.{HoldsAt}
use Rattle.std.specs.List.Sorted.{IsSortedBy, IsNonDecreasingBy, IsPartitionPoint}
use Rattle.std.specs.Cmp.Lexicographic.{slice_cmp}
use Rattle.std.specs.Ordering.{nat_cmp, is_lt, ordering_index, ordering_reverse}
use Rattle.std.specs.declared.cmp.Ordering.TheVariants.{Less, Equal, Greater}
use Rattle.std.proofs.lemmas.Bool.{cases_lt}
use Rattle.std.proofs.lemmas.Cmp.{nat_list_cmp_total, tied_itself}
use Rattle.std.proofs.lemmas.List.{length-map, get_or-map}
use Rattle.std.proofs.lemmas.List.Sorted.{searchable_from_sorted}
use Rattle.std.proofs.lemmas.Map.Lookups.{exact_bytes}
use Rattle.std.proofs.lemmas.Option.{slice_get-map, slice_get_within, get_or_from_slice_get}
use Rattle.std.specs.Option.{option_map}
use Rattle.cc_meaning.specs.Order.{IsBefore, IsRising}
use Rattle.cc_tables.specs.Rows.{IsOneRow}

-- ---- places

pub contains_at : {A : Type 0} (xs : List A) (place : ℕ) (x : A) → slice_get xs place ≡ Some x → Contains xs x
contains_at xs place x there = (place, slice_get_within xs place x there, get_or_from_slice_get xs place x x there)

pub some_at : {A : Type 0} (xs : List A) (place : ℕ) → place < length xs → (x : A) × (slice_get xs place ≡ Some x)
some_at [] place within = absurd (omega arith)
some_at (x ∷ xs) zero within = (x, refl)
some_at (x ∷ xs) (suc place) within = some_at xs place (omega arith)

pub same_some : {A : Type 0} (o : Option A) (x y : A) → o ≡ Some x → o ≡ Some y → x ≡ y
same_some o x y one other = let e : Some x ≡ Some y = sym one ∙ other in cc

-- ---- search

module _ {A : Type 0} (key : A → List ℕ) (among : List A) (wanted : List ℕ) where
  pub found : (place : ℕ) → place < length among → HoldsAt (λ x. slice_cmp nat_cmp (key x) wanted ≡ Equal) among place →
      (x : A) × (slice_get among place ≡ Some x) × (key x ≡ wanted)
  found place within equal =
      let one = some_at among place within in
      let is : get_or among place one.0 ≡ one.0 = get_or_from_slice_get among place one.0 one.0 one.1 in
      let same : slice_cmp nat_cmp (key one.0) wanted ≡ Equal = subst (λ x. slice_cmp nat_cmp (key x) wanted ≡ Equal) is (equal one.0) in
      (one.0, one.1, exact_bytes (key one.0) wanted same)

  sorted_from : IsRising (map key among) → IsSortedBy (λ a b. is_lt (slice_cmp nat_cmp (key a) (key b))) among
  sorted_from rise k d low within =
      let inside : k + 1 < length (map key among) = omega (arith, within, length-map among key) in
      let less = rise k (k + 1) (key d) (omega arith) inside in
      let first = get_or-map key among k d (key d) (omega (arith, within)) in
      let second = get_or-map key among (k + 1) d (key d) (omega (arith, within)) in
      let before = subst (λ a. slice_cmp nat_cmp a (key (get_or among (k + 1) d)) ≡ Less) first (subst (λ b. slice_cmp nat_cmp (get_or (map key among) k (key d)) b ≡ Less) second less) in
      ap is_lt (nat_list_cmp_total.antisymm (key (get_or among (k + 1) d)) (key (get_or among k d)) ∙ ap ordering_reverse before)

  nowhere : (end : ℕ) → IsPartitionPoint (λ x. slice_cmp nat_cmp (key x) wanted ≡ Less) (λ x. slice_cmp nat_cmp (key x) wanted ≡ Greater) among end →
      (k : ℕ) (some : A) → k < length among → slice_cmp nat_cmp (key (get_or among k some)) wanted ≡ Equal → (k < end) ⊎ (end ≤ k) → ⊥
  nowhere end parted k some within equal (inl below) = absurd (let e : Equal ≡ Less = sym equal ∙ parted.0 k some (omega arith) below in cc)
  nowhere end parted k some within equal (inr above) = absurd (let e : Equal ≡ Greater = sym equal ∙ parted.1 k some above within in cc)

  pub not_found : (end : ℕ) → IsRising (map key among) →
      (IsNonDecreasingBy (λ x. ordering_index (slice_cmp nat_cmp (key x) wanted)) among → IsPartitionPoint (λ x. slice_cmp nat_cmp (key x) wanted ≡ Less) (λ x. slice_cmp nat_cmp (key x) wanted ≡ Greater) among end) →
      (place : ℕ) (x : A) → slice_get among place ≡ Some x → key x ≡ wanted → ⊥
  not_found end rise told place x there is =
      let parted = told (searchable_from_sorted nat_list_cmp_total key among wanted (sorted_from rise)) in
      let within = slice_get_within among place x there in
      let here : get_or among place x ≡ x = get_or_from_slice_get among place x x there in
      let same : key (get_or among place x) ≡ wanted = ap key here ∙ is in
      nowhere end parted place x within (subst (λ n. slice_cmp nat_cmp n wanted ≡ Equal) (sym same) (tied_itself nat_list_cmp_total wanted)) (cases_lt place end)

-- where a key is that of one thing, that is what is found
pub found_one : {A : Type 0} (key : A → List ℕ) (among : List A) (wanted : A) → ((a b : A) → key a ≡ key b → a ≡ b) → (place : ℕ) → place < length among →
    HoldsAt (λ x. slice_cmp nat_cmp (key x) (key wanted) ≡ Equal) among place → slice_get among place ≡ Some wanted
found_one key among wanted one place within equal =
    let (x, there, same) = found key among (key wanted) place within equal in
    there ∙ ap Some (one x wanted same)

-- ---- once

pub not_before_itself : (name : List ℕ) → IsBefore name name → ⊥
not_before_itself name less =
    let same : slice_cmp nat_cmp name name ≡ Equal = tied_itself nat_list_cmp_total name in
    absurd cc

module _ {A : Type 0} (R : A → A → Type 0) (never : (x : A) → R x x → ⊥) (xs : List A) (rise : AllPairs R xs) where
  before : (i j : ℕ) (x : A) → i < j → slice_get xs i ≡ Some x → slice_get xs j ≡ Some x → ⊥
  before i j x less here there =
      let first : get_or xs i x ≡ x = get_or_from_slice_get xs i x x here in
      let second : get_or xs j x ≡ x = get_or_from_slice_get xs j x x there in
      never x (subst (λ a. R a x) first (subst (λ b. R (get_or xs i x) b) second (rise i j x less (slice_get_within xs j x there))))

  pub once : (i j : ℕ) (x : A) → slice_get xs i ≡ Some x → slice_get xs j ≡ Some x → i ≡ j
  once i j x here there = from (cases_lt i j) (cases_lt j i)
    where
      from : (i < j) ⊎ (j ≤ i) → (j < i) ⊎ (i ≤ j) → i ≡ j
      from (inl less) other = absurd (before i j x less here there)
      from (inr more) (inl less) = absurd (before j i x less there here)
      from (inr more) (inr other) = omega arith

-- ---- answers

-- two properties that are one have the same row
pub one_row_by : (P Q : ℕ → Type 0) (o : Option ℕ) → ((n : ℕ) → P n → Q n) → ((n : ℕ) → Q n → P n) → IsOneRow P o → IsOneRow Q o
one_row_by P Q None forth back none = λ n q. none n (back n q)
one_row_by P Q (Some n) forth back is = forth n is

pub found_mapped : {A B : Type 0} (f : A → B) (xs : List A) (place : ℕ) (x : A) → slice_get xs place ≡ Some x → slice_get (map f xs) place ≡ Some (f x)
found_mapped f xs place x there = slice_get-map f xs place ∙ ap (option_map f) there

pub none_row : (P : ℕ → Type 0) (o : Option ℕ) → o ≡ None → ((n : ℕ) → P n → ⊥) → IsOneRow P o
none_row P o is none = subst (IsOneRow P) (sym is) none
