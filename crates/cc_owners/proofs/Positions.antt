-- The first element that passes a test, by its place.
use Rattle.std.proofs.Common.{◌≡◌, ℕ, zero, suc, ◌+◌, ◌<◌, ◌≤◌, Bool, true, false, cond, not, List, [], ◌∷◌, length, get_or, map, Option, Some, None, slice_get, refl, sym, ap, subst, ◌∙◌, arith}
use Rattle.std.specs.Prelude.{position, find, nat_lt}
use Rattle.std.specs.List.{position_or_len}
use Rattle.std.proofs.lemmas.Bool.Decides.{nat_tests}
use Rattle.std.proofs.lemmas.List.{length-map}
use Rattle.std.proofs.lemmas.List.Folds.{find_at}
use Rattle.std.proofs.lemmas.List.Sums.{position_or_len_is}
use Rattle.std.proofs.lemmas.Option.{slice_get-get_or, slice_get_within, slice_get_past, get_or_from_slice_get}

within_is : (n l : ℕ) → n < l → cond (nat_lt n l) (Some n) None ≡ Some n
within_is n l below = grind (arith, nat_tests)

past_is : (n l : ℕ) → l ≤ n → cond (nat_lt n l) (Some n) None ≡ None
past_is n l past = grind (arith, nat_tests)

pub position_is : {A : Type 0} (test : A → Bool) (xs : List A) (k : ℕ) (x : A) → slice_get xs k ≡ Some x → test x ≡ true → ((j : ℕ) (y : A) → j < k → slice_get xs j ≡ Some y → test y ≡ false) →
    position test xs ≡ Some k
position_is test xs k x there passes before =
    let within : k < length xs = slice_get_within xs k x there in
    let first : position_or_len test xs ≡ k =
    position_or_len_is test xs k x (omega arith) (λ j below. before j (get_or xs j x) below (slice_get-get_or xs j x (omega arith)))
    (λ inside. ap test (get_or_from_slice_get xs k x x there) ∙ passes) in
    subst (λ n. cond (nat_lt n (length xs)) (Some n) None ≡ Some k) (sym first) (within_is k (length xs) within)

pub position_none : {A : Type 0} (test : A → Bool) (xs : List A) → ((j : ℕ) (y : A) → slice_get xs j ≡ Some y → test y ≡ false) → position test xs ≡ None
position_none test [] none = refl
position_none {A = A} test (x ∷ xs) none =
    let all : position_or_len test (x ∷ xs) ≡ length (x ∷ xs) =
    position_or_len_is test (x ∷ xs) (length (x ∷ xs)) x (omega arith) (λ j below. none j (get_or (x ∷ xs) j x) (slice_get-get_or (x ∷ xs) j x below)) (λ inside. absurd (omega arith)) in
    past_is (position_or_len test (x ∷ xs)) (length (x ∷ xs)) (omega arith)

pub position_mapped : {A B : Type 0} (test : B → Bool) (f : A → B) (xs : List A) → position_or_len test (map f xs) ≡ position_or_len (λ x. test (f x)) xs
position_mapped test f [] = refl
position_mapped test f (x ∷ xs) = ap (λ n. cond (not (test (f x))) (1 + n) 0) (position_mapped test f xs)

-- ---- what is found

-- by its place
abbrev pub Stands : {A : Type 0} → Option A → List A → Option ℕ → Type 0
Stands {A} found xs None = found ≡ None
Stands {A} found xs (Some k) = (x : A) × (found ≡ Some x) × (slice_get xs k ≡ Some x)

pub found_at : {A B : Type 0} (test : B → Bool) (f : A → B) (xs : List A) → Stands (find (λ x. test (f x)) xs) xs (position test (map f xs))
found_at {A = A} test f xs = from (nat_lt place (length (map f xs))) refl
  where
    place : ℕ
    place = position_or_len test (map f xs)

    found : find (λ x. test (f x)) xs ≡ slice_get xs place
    found = find_at (λ x. test (f x)) xs ∙ ap (slice_get xs) (sym (position_mapped test f xs))

    from : (inside : Bool) → nat_lt place (length (map f xs)) ≡ inside → Stands (find (λ x. test (f x)) xs) xs (cond inside (Some place) None)
    from true is = some (slice_get xs place) refl
      where
        below : place < length xs
        below = let l = length-map xs f in grind (arith, nat_tests)

        some : (read : Option A) → slice_get xs place ≡ read → (x : A) × (find (λ x. test (f x)) xs ≡ Some x) × (slice_get xs place ≡ Some x)
        some (Some x) e = (x, found ∙ e, e)
        some None e = absurd (none_within xs place below e)
          where
            none_within : (ys : List A) (k : ℕ) → k < length ys → slice_get ys k ≡ None → ⊥
            none_within [] k within e = omega arith
            none_within (y ∷ ys) zero within e = absurd cc
            none_within (y ∷ ys) (suc k) within e = none_within ys k (omega (arith, within)) e
    from false is =
        let past : length xs ≤ place = let l = length-map xs f in grind (arith, nat_tests) in
        found ∙ slice_get_past xs place past

pub found_here : {A : Type 0} (test : A → Bool) (xs : List A) → Stands (find test xs) xs (position test xs)
found_here {A = A} test xs = subst (λ ys. Stands (find test xs) xs (position test ys)) (same xs) (found_at test (λ x. x) xs)
  where
    same : (ys : List A) → map (λ x. x) ys ≡ ys
    same [] = refl
    same (y ∷ ys) = ap (λ l. y ∷ l) (same ys)
