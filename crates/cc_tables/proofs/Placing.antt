-- The place of a key, and what a binary search finds among things that rise by their keys.
use Rattle.std.proofs.Common.{◌≡◌, ◌⊎◌, inl, inr, ℕ, ◌+◌, ◌<◌, ◌≤◌, true, false, Bool, List, [], length, map, get_or, Some, None, slice_get, refl, sym, ap, subst, ◌∙◌, arith}
use Rattle.std.specs.Prelude.{Contains}
use Rattle.std.specs.Str.{bytes_eq}
use Rattle.std.specs.List.{HoldsAt, position_or_len}
use Rattle.std.specs.List.Sorted.{IsSortedBy, IsNonDecreasingBy, IsPartitionPoint}
use Rattle.std.specs.Cmp.Lexicographic.{slice_cmp}
use Rattle.std.specs.Ordering.{nat_cmp, is_lt, ordering_index, ordering_reverse}
use Rattle.std.specs.declared.cmp.Ordering.TheVariants.{Less, Equal, Greater}
use Rattle.std.proofs.lemmas.Bool.{cases_lt}
use Rattle.std.proofs.lemmas.Cmp.{nat_list_cmp_total, tied_itself}
use Rattle.std.proofs.lemmas.List.{length-map, get_or-map, map-id}
use Rattle.std.proofs.lemmas.List.Sorted.{searchable_from_sorted}
use Rattle.std.proofs.lemmas.List.Sums.{position_or_len_is, fails_before_first, passes_at_first}
use Rattle.std.proofs.lemmas.Map.Lookups.{exact_bytes}
use Rattle.std.proofs.lemmas.Option.{slice_get_cases, get_or_from_slice_get}
use Rattle.std.proofs.lemmas.Slice.Eq.{bytes_eq-Decides}
use Rattle.cc_meaning.specs.Order.{IsBefore, IsRising}
use Rattle.cc_tables.specs.Places.{place_of, itself}

not_same : (a b : List ℕ) (t : Bool) → bytes_eq a b ≡ t → (a ≡ b → ⊥) → t ≡ false
not_same a b true e differ = absurd (differ ((bytes_eq-Decides a b).0 e))
not_same a b false e differ = refl

pub never_before : (a : List ℕ) → IsBefore a a → ⊥
never_before a before = let e : Less ≡ Equal = sym before ∙ tied_itself nat_list_cmp_total a in absurd (cc)

module _ {A : Type 0} (key : A → List ℕ) (items : List A) where
  -- what has the key is at its place
  pub placed : (item : A) → Contains items item → (place_of key items (key item) < length items) × ((d : A) → key (get_or items (place_of key items (key item)) d) ≡ key item)
  unfolding place_of
  placed item (k, within, is) = (inside, λ d. (bytes_eq-Decides (key (get_or items place d)) (key item)).0 (passes_at_first (λ x. bytes_eq (key x) (key item)) items d inside))
    where
      place : ℕ
      place = position_or_len (λ x. bytes_eq (key x) (key item)) items

      from : (place < length items) ⊎ (length items ≤ place) → place < length items
      from (inl below) = below
      from (inr above) =
          let no : bytes_eq (key (get_or items k item)) (key item) ≡ false = fails_before_first (λ x. bytes_eq (key x) (key item)) items k item (omega (arith, within, above)) in
          let yes : bytes_eq (key (get_or items k item)) (key item) ≡ true = (bytes_eq-Decides (key (get_or items k item)) (key item)).1 (ap key is) in
          absurd (cc)

      inside : place < length items
      inside = from (cases_lt place (length items))

  -- where none has the key
  pub placed_nowhere : (name : List ℕ) (d : A) → ((k : ℕ) → k < length items → key (get_or items k d) ≡ name → ⊥) → place_of key items name ≡ length items
  unfolding place_of
  placed_nowhere name d none =
      position_or_len_is (λ x. bytes_eq (key x) name) items (length items) d (omega arith)
      (λ k below. not_same (key (get_or items k d)) name (bytes_eq (key (get_or items k d)) name) refl (none k below)) (λ no. absurd (omega (arith, no)))

  module _ (rise : IsRising (map key items)) where
    -- keys rise
    pub keys_rise : (i j : ℕ) (d : A) → i < j → j < length items → IsBefore (key (get_or items i d)) (key (get_or items j d))
    keys_rise i j d below within =
        let inside : j < length (map key items) = omega (arith, within, length-map items key) in
        let first = get_or-map key items i d (key d) (omega (arith, within, below)) in
        let second = get_or-map key items j d (key d) within in
        subst (λ a. IsBefore a (key (get_or items j d))) first (subst (λ b. IsBefore (get_or (map key items) i (key d)) b) second (rise i j (key d) below inside))

    -- the place of a row's key is the row's
    pub place_is : (name : List ℕ) (n : ℕ) (d : A) → n < length items → key (get_or items n d) ≡ name → place_of key items name ≡ n
    unfolding place_of
    place_is name n d within is =
        position_or_len_is (λ x. bytes_eq (key x) name) items n d (omega (arith, within))
        (λ k below. not_same (key (get_or items k d)) name (bytes_eq (key (get_or items k d)) name) refl
        (λ same. never_before name (subst (λ a. IsBefore a name) same (subst (λ b. IsBefore (key (get_or items k d)) b) is (keys_rise k n d below within)))))
        (λ there. (bytes_eq-Decides (key (get_or items n d)) name).1 is)

    sorted_from : IsSortedBy (λ a b. is_lt (slice_cmp nat_cmp (key a) (key b))) items
    sorted_from k d low within =
        ap is_lt (nat_list_cmp_total.antisymm (key (get_or items (k + 1) d)) (key (get_or items k d)) ∙ ap ordering_reverse (keys_rise k (k + 1) d (omega arith) within))

    nowhere : (name : List ℕ) (d : A) (end : ℕ) → IsPartitionPoint (λ x. slice_cmp nat_cmp (key x) name ≡ Less) (λ x. slice_cmp nat_cmp (key x) name ≡ Greater) items end →
        (k : ℕ) → k < length items → slice_cmp nat_cmp (key (get_or items k d)) name ≡ Equal → (k < end) ⊎ (end ≤ k) → ⊥
    nowhere name d end parted k within equal (inl below) = absurd (let e : Equal ≡ Less = sym equal ∙ parted.0 k d (omega arith) below in cc)
    nowhere name d end parted k within equal (inr above) = absurd (let e : Equal ≡ Greater = sym equal ∙ parted.1 k d above within in cc)

    -- what a search finds is the place, and where it finds nothing there is none
    pub found : (name : List ℕ) (d : A) (place : ℕ) → place < length items → HoldsAt (λ x. slice_cmp nat_cmp (key x) name ≡ Equal) items place → place_of key items name ≡ place
    found name d place within equal = place_is name place d within (exact_bytes (key (get_or items place d)) name (equal d))

    pub not_found : (name : List ℕ) (d : A) (end : ℕ) →
        (IsNonDecreasingBy (λ x. ordering_index (slice_cmp nat_cmp (key x) name)) items → IsPartitionPoint (λ x. slice_cmp nat_cmp (key x) name ≡ Less) (λ x. slice_cmp nat_cmp (key x) name ≡ Greater) items end) →
        place_of key items name ≡ length items
    not_found name d end told =
        let parted = told (searchable_from_sorted nat_list_cmp_total key items name sorted_from) in
        placed_nowhere name d (λ k within same. nowhere name d end parted k within (subst (λ n. slice_cmp nat_cmp n name ≡ Equal) (sym same) (tied_itself nat_list_cmp_total name)) (cases_lt k end))

-- a row that is read is within its table
pub slice_get_within : {A : Type 0} (xs : List A) (i : ℕ) (x : A) → slice_get xs i ≡ Some x → i < length xs
slice_get_within {A} xs i x there = from ((slice_get_cases xs i).1)
  where
    from : ((y : A) × (i < length xs) × (slice_get xs i ≡ Some y) × (get_or xs i y ≡ y)) ⊎ ((length xs ≤ i) × (slice_get xs i ≡ None)) → i < length xs
    from (inl (y, within, at, is)) = within
    from (inr (past, none)) = let e : None ≡ Some x = sym none ∙ there in absurd (cc)

-- a text is at its place
pub text_found : (texts : List (List ℕ)) → IsRising texts → (units : List ℕ) (place : ℕ) → slice_get texts place ≡ Some units → place_of itself texts units ≡ place
text_found texts rise units place there =
    let mapped : map itself texts ≡ texts = map-id texts in
    place_is itself texts (subst IsRising (sym mapped) rise) units place [] (slice_get_within texts place units there) (get_or_from_slice_get texts place units [] there)
