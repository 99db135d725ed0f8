-- Functions in the order of their names: what a sort leaves, and what a search finds.
use Rattle.std.proofs.Common.{◌≡◌, ◌≢◌, ◌⊎◌, inl, inr, ℕ, ◌+◌, ◌-◌, ◌<◌, ◌≤◌, Bool, true, false, List, [], length, map, get_or, Option, Some, None, slice_get, MatchOption, refl, ap, subst, sym, ◌∙◌, arith}
use Rattle.std.specs.Prelude.{AllPairs, Result, Ok, Err}
use Rattle.std.specs.List.{HoldsAt}
use Rattle.std.specs.List.Sorted.{IsPermutation, IsSortedBy, IsNonDecreasingBy, IsBinarySearchResult, IsSearchInRange, IsPartitionPoint}
use Rattle.std.specs.Result.{result_ok}
use Rattle.std.specs.Bool.{Decides}
use Rattle.std.specs.Cmp.Lexicographic.{slice_cmp}
use Rattle.std.specs.Ordering.{nat_cmp, is_lt, is_eq, eq_by_cmp, ordering_index, ordering_reverse}
use Rattle.std.specs.declared.cmp.Ordering.{Ordering}
use Rattle.std.specs.declared.cmp.Ordering.TheVariants.{Less, Equal, Greater}
use Rattle.std.proofs.lemmas.Bool.{cases_lt}
use Rattle.std.proofs.lemmas.Cmp.{nat_list_cmp_total, tied_itself, eq_by_cmp_equiv}
use Rattle.std.proofs.lemmas.List.{get_or-map, get_or_default, length-map}
use Rattle.std.proofs.lemmas.List.Sorted.{IsPermutation-sym, IsPermutation-trans, IsPermutation-map, ranks_by, sorted_far, searchable_from_sorted}
use Rattle.std.proofs.lemmas.Option.{slice_get-get_or, slice_get_within, get_or_from_slice_get}
use Rattle.std.proofs.lemmas.Map.Keys.{IsDistinct-IsPermutation}
use Rattle.std.proofs.lemmas.Map.Lookups.{exact_bytes}
use Rattle.std.proofs.lemmas.Map.Made.{AllPairs-from_IsDistinct, IsDistinct-from_AllPairs}
use Rattle.cc_meaning.specs.Order.{IsBefore, IsRising}
use Rattle.cc_meaning_plain.specs.declared.plain.Last.TheVariants.{ReturnVoid}
use Rattle.cc_meaning_plain.specs.declared.plain.PlainFunction.{PlainFunction}
use Rattle.cc_meaning_plain.specs.Plain.{name_of}

not_before_itself : (name : List ℕ) → IsBefore name name → ⊥
not_before_itself name less =
    let same : slice_cmp nat_cmp name name ≡ Equal = tied_itself nat_list_cmp_total name in
    absurd cc

-- ---- rising

-- the first n functions rise
abbrev pub RisesTo : List PlainFunction → ℕ → Type 0
RisesTo functions n = (i j : ℕ) (d : PlainFunction) → i < j → j < n → IsBefore (get_or functions i d).name (get_or functions j d).name

pub rises_at_first : (functions : List PlainFunction) → RisesTo functions 1
rises_at_first functions i j d below within = absurd (omega arith)

pub rises_more : (functions : List PlainFunction) (n : ℕ) → 1 ≤ n → RisesTo functions n →
    ((d : PlainFunction) → IsBefore (get_or functions (n - 1) d).name (get_or functions n d).name) → RisesTo functions (n + 1)
rises_more functions n some rises next i j d below within = from (cases_lt j n)
  where
    last : (n - 1 ≤ i) ⊎ (i < n - 1) → j ≡ n → IsBefore (get_or functions i d).name (get_or functions j d).name
    last (inl same) at_end =
        let e : n - 1 ≡ i = omega arith in
        subst (λ k. IsBefore (get_or functions i d).name (get_or functions k d).name) (sym at_end)
        (subst (λ k. IsBefore (get_or functions k d).name (get_or functions n d).name) e (next d))
    last (inr before) at_end =
        subst (λ k. IsBefore (get_or functions i d).name (get_or functions k d).name) (sym at_end)
        (nat_list_cmp_total.trans (get_or functions i d).name (get_or functions (n - 1) d).name (get_or functions n d).name (rises i (n - 1) d before (omega arith)) (next d))

    turn : (i < n - 1) ⊎ (n - 1 ≤ i) → (n - 1 ≤ i) ⊎ (i < n - 1)
    turn (inl a) = inr a
    turn (inr a) = inl a

    from : (j < n) ⊎ (n ≤ j) → IsBefore (get_or functions i d).name (get_or functions j d).name
    from (inl inside) = rises i j d below inside
    from (inr at_end) = last (turn (cases_lt i (n - 1))) (omega arith)

blank : PlainFunction
blank = record { name = []; code = record { registers = 0; insns = []; last = ReturnVoid } }

name_at : (functions : List PlainFunction) (i : ℕ) (d : List ℕ) → i < length functions → get_or (map name_of functions) i d ≡ (get_or functions i blank).name
name_at functions i d within = get_or-map name_of functions i blank d within

pub rising_from : (functions : List PlainFunction) (n : ℕ) → length functions ≤ n → RisesTo functions n → IsRising (map name_of functions)
rising_from functions n whole rises i j d below within =
    let inside : j < length functions = omega (arith, within, length-map functions name_of) in
    let before = rises i j blank below (omega (arith, inside)) in
    rw (name_at functions i d (omega (arith, inside)), name_at functions j d inside) before

pub rises_from : (functions : List PlainFunction) (i j : ℕ) (d : PlainFunction) → IsRising (map name_of functions) → i < j → j < length functions →
    IsBefore (get_or functions i d).name (get_or functions j d).name
rises_from functions i j d rise below inside =
    let within : j < length (map name_of functions) = omega (arith, inside, length-map functions name_of) in
    let before = rise i j [] below within in
    rw (get_or-map name_of functions i d [] (omega arith), get_or-map name_of functions j d [] inside) at before

-- ---- sorted

abbrev pub by_name : PlainFunction → PlainFunction → Bool
by_name x y = is_lt (slice_cmp nat_cmp x.name y.name)

same_names : (a b : List ℕ) → Decides (eq_by_cmp (slice_cmp nat_cmp) a b) (a ≡ b)
same_names a b = (λ e. exact_bytes a b (equal (slice_cmp nat_cmp a b) e), λ e. subst (λ c. is_eq (slice_cmp nat_cmp a c) ≡ true) e (ap is_eq (tied_itself nat_list_cmp_total a)))
  where
    equal : (o : Ordering) → is_eq o ≡ true → o ≡ Equal
    equal Less e = absurd cc
    equal Equal e = refl
    equal Greater e = absurd cc

differ : (names : List (List ℕ)) → IsRising names → AllPairs (λ x y. x ≢ y) names
differ names rise i j d below within = λ e. not_before_itself (get_or names j d) (subst (λ n. IsBefore n (get_or names j d)) e (rise i j d below within))

-- names that differ in some order differ in any
differ_moved : (xs ys : List (List ℕ)) → IsPermutation xs ys → AllPairs (λ x y. x ≢ y) xs → AllPairs (λ x y. x ≢ y) ys
differ_moved xs ys moved apart =
    AllPairs-from_IsDistinct same_names ys
    (IsDistinct-IsPermutation (eq_by_cmp (slice_cmp nat_cmp)) (eq_by_cmp_equiv nat_list_cmp_total).symm xs ys moved (IsDistinct-from_AllPairs same_names xs apart))

less_of : (x y : List ℕ) → x ≢ y → is_lt (slice_cmp nat_cmp y x) ≡ false → IsBefore x y
less_of x y apart back = from (slice_cmp nat_cmp x y) (slice_cmp nat_cmp y x) refl refl (nat_list_cmp_total.antisymm x y)
  where
    from : (o p : Ordering) → slice_cmp nat_cmp x y ≡ o → slice_cmp nat_cmp y x ≡ p → slice_cmp nat_cmp x y ≡ ordering_reverse (slice_cmp nat_cmp y x) → slice_cmp nat_cmp x y ≡ Less
    from Less p is other turned = is
    from Equal p is other turned = absurd (apart (exact_bytes x y is))
    from Greater Less is other turned = absurd (let e : is_lt Less ≡ false = ap is_lt (sym other) ∙ back in cc)
    from Greater Equal is other turned = absurd (let e : Greater ≡ Equal = sym is ∙ (turned ∙ ap ordering_reverse other) in cc)
    from Greater Greater is other turned = absurd (let e : Greater ≡ Less = sym is ∙ (turned ∙ ap ordering_reverse other) in cc)

-- what a sort leaves rises, if the functions rise in any order
pub sorted_rises : (given sorted all : List PlainFunction) → IsPermutation given sorted → IsSortedBy by_name sorted → IsPermutation given all → IsRising (map name_of all) → IsRising (map name_of sorted)
sorted_rises given sorted all moved up other rise = rising_from sorted (length sorted) (omega arith) rises
  where
    apart : AllPairs (λ x y. x ≢ y) (map name_of sorted)
    apart = differ_moved (map name_of all) (map name_of sorted)
        (IsPermutation-map name_of all sorted (IsPermutation-trans all given sorted (IsPermutation-sym given all other) moved)) (differ (map name_of all) rise)

    rises : RisesTo sorted (length sorted)
    rises i j d below within =
        let inside : j < length (map name_of sorted) = omega (arith, within, length-map sorted name_of) in
        let other_name = rw (get_or-map name_of sorted i d [] (omega arith), get_or-map name_of sorted j d [] within) at (apart i j [] below inside) in
        less_of (get_or sorted i d).name (get_or sorted j d).name other_name (sorted_far by_name (ranks_by nat_list_cmp_total name_of) sorted up i j d (omega arith) within)

-- one that isn't less than the next one
pub not_rising : (functions : List PlainFunction) (n : ℕ) (x y : PlainFunction) (o : Ordering) → 1 ≤ n → n < length functions →
    o ≡ slice_cmp nat_cmp (get_or functions (n - 1) x).name (get_or functions n y).name → is_lt o ≡ false → IsRising (map name_of functions) → ⊥
not_rising functions n x y o some within compared fails rise =
    let before = rises_from functions (n - 1) n x rise (omega arith) within in
    let less : slice_cmp nat_cmp (get_or functions (n - 1) x).name (get_or functions n y).name ≡ Less = rw (get_or_default functions n y x within) before in
    absurd (let e : is_lt Less ≡ false = ap is_lt (sym (compared ∙ less)) ∙ fails in cc)

is_less : (o : Ordering) → is_lt o ≡ true → o ≡ Less
is_less Less e = refl
is_less Equal e = absurd cc
is_less Greater e = absurd cc

pub next_rises : (functions : List PlainFunction) (n : ℕ) (x y : PlainFunction) (o : Ordering) → 1 ≤ n → n < length functions → RisesTo functions n →
    o ≡ slice_cmp nat_cmp (get_or functions (n - 1) x).name (get_or functions n y).name → is_lt o ≡ true → RisesTo functions (n + 1)
next_rises functions n x y o some within rises compared holds =
    rises_more functions n some rises (λ d.
    let less : IsBefore (get_or functions (n - 1) x).name (get_or functions n y).name = sym compared ∙ is_less o holds in
    rw (get_or_default functions (n - 1) d x (omega arith), get_or_default functions n d y within) less)

-- ---- searched

abbrev pub to_name : List ℕ → PlainFunction → Ordering
to_name name function = slice_cmp nat_cmp function.name name

pub found_there : (functions : List PlainFunction) (name : List ℕ) (place : ℕ) → place < length functions → HoldsAt (λ f. to_name name f ≡ Equal) functions place →
    slice_get (map name_of functions) place ≡ Some name
found_there functions name place within equal =
    let inside : place < length (map name_of functions) = omega (arith, within, length-map functions name_of) in
    let same : (get_or functions place blank).name ≡ name = exact_bytes (get_or functions place blank).name name (equal blank) in
    slice_get-get_or (map name_of functions) place [] inside ∙ ap Some (name_at functions place [] within ∙ same)

sorted_from : (functions : List PlainFunction) → IsRising (map name_of functions) → IsSortedBy by_name functions
sorted_from functions rise k d low within =
    let less = rises_from functions k (k + 1) d rise (omega arith) within in
    let back = nat_list_cmp_total.antisymm (get_or functions (k + 1) d).name (get_or functions k d).name in
    ap is_lt (back ∙ ap ordering_reverse less)

pub found_nowhere : (functions : List PlainFunction) (name : List ℕ) (end : ℕ) → IsRising (map name_of functions) →
    (IsNonDecreasingBy (λ f. ordering_index (to_name name f)) functions → IsPartitionPoint (λ f. to_name name f ≡ Less) (λ f. to_name name f ≡ Greater) functions end) →
    (place : ℕ) → slice_get (map name_of functions) place ≢ Some name
found_nowhere functions name end rise told place there =
    let inside = slice_get_within (map name_of functions) place name there in
    let within : place < length functions = omega (arith, inside, length-map functions name_of) in
    let is : (get_or functions place blank).name ≡ name = sym (name_at functions place [] within) ∙ get_or_from_slice_get (map name_of functions) place name [] there in
    let equal : to_name name (get_or functions place blank) ≡ Equal = subst (λ n. slice_cmp nat_cmp n name ≡ Equal) (sym is) (tied_itself nat_list_cmp_total name) in
    let parted = told (searchable_from_sorted nat_list_cmp_total name_of functions name (sorted_from functions rise)) in
    from parted equal within (cases_lt place end)
  where
    from : IsPartitionPoint (λ f. to_name name f ≡ Less) (λ f. to_name name f ≡ Greater) functions end → to_name name (get_or functions place blank) ≡ Equal → place < length functions →
        (place < end) ⊎ (end ≤ place) → ⊥
    from parted equal within (inl below) = absurd (let e : Equal ≡ Less = sym equal ∙ parted.0 place blank (omega arith) below in cc)
    from parted equal within (inr above) = absurd (let e : Equal ≡ Greater = sym equal ∙ parted.1 place blank above within in cc)

pub place_is : (functions : List PlainFunction) (name : List ℕ) (r : Result ℕ ℕ) (found : Option ℕ) → IsRising (map name_of functions) → IsSearchInRange r (length functions) →
    IsBinarySearchResult (λ (f : PlainFunction). slice_cmp nat_cmp f.name name) functions r → found ≡ result_ok r →
    MatchOption found ((place : ℕ) → slice_get (map name_of functions) place ≢ Some name) (λ place. slice_get (map name_of functions) place ≡ Some name)
place_is functions name (Ok place) None rise within told is = absurd cc
place_is functions name (Ok place) (Some found) rise within told is =
    let e : found ≡ place = cc in
    subst (λ k. slice_get (map name_of functions) k ≡ Some name) (sym e) (found_there functions name place within told)
place_is functions name (Err end) None rise within told is = found_nowhere functions name end rise told
place_is functions name (Err end) (Some found) rise within told is = absurd cc
