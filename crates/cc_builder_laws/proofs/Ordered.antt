-- Lists in two parts: first those with a flag, then those without it, each part by rising numbers.
use Rattle.std.proofs.Common.{◌≡◌, ◌⊎◌, inl, inr, ℕ, suc, ◌≤◌, Bool, true, false, cond, List, [], ◌∷◌, ◌++◌, All, refl, sym, ap, ◌∙◌, arith}
use Rattle.std.specs.Prelude.{not, AllPairs, slice_index_or}
use Rattle.std.specs.List.{filter}
use Rattle.std.proofs.lemmas.List.Elements.{All-head, All-tail, filter_passes}
use Rattle.std.proofs.lemmas.List.Kept.{AllPairs-filter}

-- no number is below the one before it, or below this one
abbrev pub Rises : {A : Type 0} → (A → ℕ) → ℕ → List A → Type 0
Rises row low [] = Unit {0}
Rises row low (x ∷ xs) = (low ≤ row x) × Rises row (row x) xs

-- one with the flag stands before one without it; of those that agree in it the first has no greater number
abbrev pub Before : {A : Type 0} → (A → Bool) → (A → ℕ) → A → A → Type 0
Before flag row one other = ((flag one ≡ true) × (flag other ≡ false)) ⊎ ((flag one ≡ flag other) × (row one ≤ row other))

first_of_pairs : {A : Type 0} (R : A → A → Type 0) (x : A) (xs : List A) → AllPairs R (x ∷ xs) → All (R x) xs
first_of_pairs R x xs pairs = λ k d within. pairs 0 (suc k) d (omega arith) (omega (arith, within))

other_pairs : {A : Type 0} (R : A → A → Type 0) (x : A) (xs : List A) → AllPairs R (x ∷ xs) → AllPairs R xs
other_pairs R x xs pairs = λ i j d less within. pairs (suc i) (suc j) d (omega (arith, less)) (omega (arith, within))

-- ---- rising numbers

rises_from : {A : Type 0} (row : A → ℕ) (low : ℕ) (xs : List A) → All (λ x. low ≤ row x) xs → AllPairs (λ x y. row x ≤ row y) xs → Rises row low xs
rises_from row low [] above pairs = tt
rises_from row low (x ∷ xs) above pairs =
    (All-head (λ y. low ≤ row y) x xs above, rises_from row (row x) xs (first_of_pairs (λ y z. row y ≤ row z) x xs pairs) (other_pairs (λ y z. row y ≤ row z) x xs pairs))

agree_rise : {A : Type 0} (flag : A → Bool) (row : A → ℕ) (is : Bool) (x y : A) → flag x ≡ is → flag y ≡ is → Before flag row x y → row x ≤ row y
agree_rise flag row is x y first second (inl (with, without)) = absurd (cc)
agree_rise flag row is x y first second (inr (same, less)) = less

-- those that agree in the flag rise
pub rise : {A : Type 0} (flag : A → Bool) (row : A → ℕ) (is : Bool) (xs : List A) → All (λ x. flag x ≡ is) xs → AllPairs (Before flag row) xs → Rises row 0 xs
rise flag row is xs agree pairs =
    rises_from row 0 xs (λ k d within. omega arith) (λ i j d less within.
    agree_rise flag row is (slice_index_or xs i d) (slice_index_or xs j d) (agree i d (omega (arith, less, within))) (agree j d within) (pairs i j d less within))

-- ---- the two parts

pub from_not : (flag : Bool) → not flag ≡ true → flag ≡ false
from_not true e = absurd (cc)
from_not false e = refl

pub none_kept : {A : Type 0} (test : A → Bool) (xs : List A) → All (λ x. test x ≡ false) xs → filter test xs ≡ []
none_kept test [] none = refl
none_kept test (x ∷ xs) none = rw (All-head (λ y. test y ≡ false) x xs none) (none_kept test xs (All-tail (λ y. test y ≡ false) x xs none))

pub all_kept : {A : Type 0} (test : A → Bool) (xs : List A) → All (λ x. test x ≡ true) xs → filter test xs ≡ xs
all_kept test [] all = refl
all_kept test (x ∷ xs) all = rw (All-head (λ y. test y ≡ true) x xs all) (ap (λ ys. x ∷ ys) (all_kept test xs (All-tail (λ y. test y ≡ true) x xs all)))

without_before : {A : Type 0} (flag : A → Bool) (row : A → ℕ) (x y : A) → flag x ≡ false → Before flag row x y → flag y ≡ false
without_before flag row x y lacks (inl (with, without)) = absurd (cc)
without_before flag row x y lacks (inr (same, less)) = sym same ∙ lacks

pub in_two : {A : Type 0} (flag : A → Bool) (row : A → ℕ) (xs : List A) → AllPairs (Before flag row) xs → xs ≡ filter flag xs ++ filter (λ x. not (flag x)) xs
in_two flag row [] pairs = refl
in_two {A} flag row (x ∷ xs) pairs = cases (flag x) refl (in_two flag row xs (other_pairs (Before flag row) x xs pairs))
  where
    lack : flag x ≡ false → All (λ y. flag y ≡ false) xs
    lack e = λ k d within. without_before flag row x (slice_index_or xs k d) e (first_of_pairs (Before flag row) x xs pairs k d within)

    cases : (is : Bool) → flag x ≡ is → xs ≡ filter flag xs ++ filter (λ y. not (flag y)) xs →
        x ∷ xs ≡ cond is (x ∷ filter flag xs) (filter flag xs) ++ cond (not is) (x ∷ filter (λ y. not (flag y)) xs) (filter (λ y. not (flag y)) xs)
    cases true e same = ap (λ ys. x ∷ ys) same
    cases false e same =
        let none = none_kept flag xs (lack e) in
        let all = all_kept (λ y. not (flag y)) xs (λ k d within. ap not (lack e k d within)) in
        rw (none, all) refl

pub fronts_rise : {A : Type 0} (flag : A → Bool) (row : A → ℕ) (xs : List A) → AllPairs (Before flag row) xs → Rises row 0 (filter flag xs)
fronts_rise flag row xs pairs = rise flag row true (filter flag xs) (filter_passes flag xs) (AllPairs-filter (Before flag row) flag xs pairs)

pub backs_lack : {A : Type 0} (flag : A → Bool) (xs : List A) → All (λ x. flag x ≡ false) (filter (λ x. not (flag x)) xs)
backs_lack flag xs = λ k d within. from_not (flag (slice_index_or (filter (λ x. not (flag x)) xs) k d)) (filter_passes (λ x. not (flag x)) xs k d within)

pub backs_rise : {A : Type 0} (flag : A → Bool) (row : A → ℕ) (xs : List A) → AllPairs (Before flag row) xs → Rises row 0 (filter (λ x. not (flag x)) xs)
backs_rise flag row xs pairs = rise flag row false (filter (λ x. not (flag x)) xs) (backs_lack flag xs) (AllPairs-filter (Before flag row) (λ x. not (flag x)) xs pairs)
