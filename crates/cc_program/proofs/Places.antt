-- The first place that passes a test, and the only place of a name among names that rise.
use Rattle.std.proofs.Common.{◌≡◌, ◌≢◌, ◌⊎◌, inl, inr, ℕ, ◌<◌, ◌≤◌, Bool, true, false, List, [], ◌∷◌, length, get_or, Some, None, position, refl, sym, ap, ◌∙◌, subst, arith}
use Rattle.std.specs.Prelude.{slice_get, find, option_and_then, AllPairs}
use Rattle.std.specs.List.{position_or_len}
use Rattle.std.specs.Str.{bytes_eq}
use Rattle.std.proofs.lemmas.List.Folds.{find_at}
use Rattle.std.proofs.lemmas.List.Sums.{position_or_len_is, passes_at_first}
use Rattle.std.proofs.lemmas.Option.{slice_get_within, slice_get-get_or, get_or_from_slice_get, slice_get_past}
use Rattle.std.proofs.lemmas.Slice.Eq.{bytes_eq-Decides}
use Rattle.cc_meaning.specs.Order.{IsBefore}
use Rattle.cc_meaning_program.proofs.Rising.{not_before_itself}

-- ---- the first place

place_found : {X : Type 0} (p : X → Bool) (xs : List X) (i : ℕ) → position_or_len p xs ≡ i → i < length xs → position p xs ≡ Some i
place_found p xs i e h = grind (arith, e, h)

place_absent : {X : Type 0} (p : X → Bool) (xs : List X) → position_or_len p xs ≡ length xs → position p xs ≡ None
place_absent p xs e = grind (arith, e)

pub position_is : {X : Type 0} (p : X → Bool) (xs : List X) (n : ℕ) (x : X) → slice_get xs n ≡ Some x → p x ≡ true → ((i : ℕ) (y : X) → i < n → slice_get xs i ≡ Some y → p y ≡ false) → position p xs ≡ Some n
position_is p xs n x there passes before =
    let within : n < length xs = slice_get_within xs n x there in
    place_found p xs n
    (position_or_len_is p xs n x (omega arith) (λ k less. before k (get_or xs k x) less (slice_get-get_or xs k x (omega arith))) (λ inside. subst (λ y. p y ≡ true) (sym (get_or_from_slice_get xs n x x there)) passes)) within

pub position_none : {X : Type 0} (p : X → Bool) (xs : List X) → ((i : ℕ) (y : X) → slice_get xs i ≡ Some y → p y ≡ false) → position p xs ≡ None
position_none p [] none = refl
position_none p (x ∷ xs) none =
    place_absent p (x ∷ xs) (position_or_len_is p (x ∷ xs) (length (x ∷ xs)) x (omega arith) (λ k less. none k (get_or (x ∷ xs) k x) (slice_get-get_or (x ∷ xs) k x less)) (λ inside. absurd (omega arith)))

within_or_past : (i j : ℕ) → (i < j) ⊎ (j ≤ i)
within_or_past i j = grind arith

-- what stands at a first place
pub record Placed {X : Type 0} (p : X → Bool) (xs : List X) (n : ℕ) : Type 0 where
  pub item : X
  pub there : slice_get xs n ≡ Some item
  pub passes : p item ≡ true

some_place : {X : Type 0} (p : X → Bool) (xs : List X) (n : ℕ) → position p xs ≡ Some n → (position_or_len p xs ≡ n) × (n < length xs)
some_place p xs n e = from (within_or_past (position_or_len p xs) (length xs))
  where
    same : (i j : ℕ) → Some i ≡ Some j → i ≡ j
    same i j e = cc

    from : (position_or_len p xs < length xs) ⊎ (length xs ≤ position_or_len p xs) → (position_or_len p xs ≡ n) × (n < length xs)
    from (inl within) =
        let is : position_or_len p xs ≡ n = same (position_or_len p xs) n (sym (place_found p xs (position_or_len p xs) refl within) ∙ e) in
        (is, subst (λ k. k < length xs) is within)
    from (inr past) = absurd (let none : position p xs ≡ None = grind (arith, past) in let no : None ≡ Some n = sym none ∙ e in cc)

pub placed : {X : Type 0} (p : X → Bool) (xs : List X) (n : ℕ) → position p xs ≡ Some n → Placed p xs n
placed p [] n e = absurd (let both = some_place p [] n e in omega (arith, both.1))
placed p (x ∷ xs) n e =
    let both = some_place p (x ∷ xs) n e in
    record {
      item = get_or (x ∷ xs) n x;
      there = slice_get-get_or (x ∷ xs) n x both.1;
      passes = subst (λ k. p (get_or (x ∷ xs) k x) ≡ true) both.0 (passes_at_first p (x ∷ xs) x (subst (λ k. k < length (x ∷ xs)) (sym both.0) both.1));
    }

-- what is found stands at the first place
pub find_placed : {X : Type 0} (p : X → Bool) (xs : List X) → find p xs ≡ option_and_then (slice_get xs) (position p xs)
find_placed p xs = from (within_or_past (position_or_len p xs) (length xs))
  where
    from : (position_or_len p xs < length xs) ⊎ (length xs ≤ position_or_len p xs) → find p xs ≡ option_and_then (slice_get xs) (position p xs)
    from (inl within) = find_at p xs ∙ ap (option_and_then (slice_get xs)) (sym (place_found p xs (position_or_len p xs) refl within))
    from (inr past) =
        let none : position p xs ≡ None = grind (arith, past) in
        find_at p xs ∙ (slice_get_past xs (position_or_len p xs) past ∙ ap (option_and_then (slice_get xs)) (sym none))

-- ---- names that rise

is_other : (a b : List ℕ) → a ≢ b → bytes_eq a b ≡ false
is_other a b apart = from (bytes_eq a b) refl
  where
    from : (t : Bool) → bytes_eq a b ≡ t → bytes_eq a b ≡ false
    from true e = absurd (apart ((bytes_eq-Decides a b).0 e))
    from false e = e

pub is_same : (a b : List ℕ) → a ≡ b → bytes_eq a b ≡ true
is_same a b e = (bytes_eq-Decides a b).1 e

pub apart_by_name : {X : Type 0} (f : X → List ℕ) (xs : List X) → AllPairs (λ x y. IsBefore (f x) (f y)) xs → (i j : ℕ) (x y : X) → i < j → slice_get xs i ≡ Some x → slice_get xs j ≡ Some y → f x ≢ f y
apart_by_name f xs rise i j x y less first second = λ same.
    let within : j < length xs = slice_get_within xs j y second in
    let before : IsBefore (f (get_or xs i x)) (f (get_or xs j x)) = rise i j x less within in
    let one : f (get_or xs i x) ≡ f y = ap f (get_or_from_slice_get xs i x x first) ∙ same in
    let other : f (get_or xs j x) ≡ f y = ap f (get_or_from_slice_get xs j y x second) in
    not_before_itself (f y) (subst (λ n. IsBefore n (f y)) one (subst (λ n. IsBefore (f (get_or xs i x)) n) other before))

pub position_by_name : {X : Type 0} (f : X → List ℕ) (xs : List X) (n : ℕ) (x : X) (name : List ℕ) → AllPairs (λ x y. IsBefore (f x) (f y)) xs → slice_get xs n ≡ Some x → f x ≡ name → position (λ y. bytes_eq (f y) name) xs ≡ Some n
position_by_name f xs n x name rise there is =
    position_is (λ y. bytes_eq (f y) name) xs n x there (is_same (f x) name is) (λ i y less at. is_other (f y) name (λ same. apart_by_name f xs rise i n y x less at there (same ∙ sym is)))
