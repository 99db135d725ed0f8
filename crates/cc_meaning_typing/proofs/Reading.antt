-- Reading lists that were changed, and tests.
use Rattle.std.proofs.Common.{◌≡◌, ◌≢◌, ◌⊎◌, ℕ, zero, suc, ◌<◌, ◌==◌, ◌&&◌, not, Bool, true, false, cond, List, [], ◌∷◌, length, replicate, Option, Some, None, refl, ap, subst, arith, nat_lt, slice_set, slice_index_or}
use Rattle.std.specs.Prelude.{Contains, find}
use Rattle.std.proofs.lemmas.Bool.Decides.{nat_tests}

pub test_eq : (a b : ℕ) → (((a == b) ≡ true) × (a ≡ b)) ⊎ (((a == b) ≡ false) × (a ≢ b))
test_eq a b = grind (arith, nat_tests)

pub and_not_false : (b : Bool) → (b && not false) ≡ b
and_not_false true = refl
and_not_false false = refl

pub and_not_true : (b : Bool) → (b && not true) ≡ false
and_not_true true = refl
and_not_true false = refl

pub set_length : {A : Type 0} (xs : List A) (a : ℕ) (y : A) → length (slice_set xs a y) ≡ length xs
set_length [] a y = refl
set_length (x ∷ xs) zero y = refl
set_length (x ∷ xs) (suc a) y = ap suc (set_length xs a y)

pub index_same : {A : Type 0} (xs : List A) (a : ℕ) (y d : A) → a < length xs → slice_index_or (slice_set xs a y) a d ≡ y
index_same [] a y d h = absurd (omega arith)
index_same (x ∷ xs) zero y d h = refl
index_same (x ∷ xs) (suc a) y d h = index_same xs a y d (omega arith)

pub index_other : {A : Type 0} (xs : List A) (a b : ℕ) (y d : A) → a ≢ b → slice_index_or (slice_set xs b y) a d ≡ slice_index_or xs a d
index_other [] a b y d ne = refl
index_other (x ∷ xs) zero zero y d ne = absurd (ne refl)
index_other (x ∷ xs) zero (suc b) y d ne = refl
index_other (x ∷ xs) (suc a) zero y d ne = refl
index_other (x ∷ xs) (suc a) (suc b) y d ne = index_other xs a b y d (omega arith)

pub index_inside : {A : Type 0} (xs : List (Option A)) (a : ℕ) (x : A) → slice_index_or xs a None ≡ Some x → a < length xs
index_inside [] a x e = cc
index_inside (y ∷ xs) zero x e = omega arith
index_inside (y ∷ xs) (suc a) x e = let h = index_inside xs a x e in omega arith

pub replicate_length : {A : Type 0} (n : ℕ) (x : A) → length (replicate n x) ≡ n
replicate_length zero x = refl
replicate_length (suc n) x = ap suc (replicate_length n x)

pub index_replicate : {A : Type 0} (n a : ℕ) (x : A) → slice_index_or (replicate n x) a x ≡ x
index_replicate zero a x = refl
index_replicate (suc n) zero x = refl
index_replicate (suc n) (suc a) x = index_replicate n a x

pub test_lt : (a b : ℕ) → ((nat_lt a b ≡ true) × (a < b)) ⊎ ((nat_lt a b ≡ false) × (a < b → ⊥))
test_lt a b = grind (arith, nat_tests)

pub set_outside : {A : Type 0} (xs : List A) (a : ℕ) (y : A) → (a < length xs → ⊥) → slice_set xs a y ≡ xs
set_outside [] a y h = refl
set_outside (x ∷ xs) zero y h = absurd (h (omega arith))
set_outside (x ∷ xs) (suc a) y h = ap (λ z. x ∷ z) (set_outside xs a y (λ l. h (omega arith)))

abbrev Stands : {A : Type 0} → (A → Bool) → List A → A → Type 0
Stands test xs x = Contains xs x × (test x ≡ true)

found_here : {A : Type 0} (test : A → Bool) (y : A) (xs : List A) (x : A) (b : Bool) → test y ≡ b → cond b (Some y) (find test xs) ≡ Some x → (find test xs ≡ Some x → Stands test xs x) → Stands test (y ∷ xs) x
found_here test y xs x true t f rest = let g : y ≡ x = cc in ((0, omega arith, g), subst (λ z. test z ≡ true) g t)
found_here test y xs x false t f rest = let r = rest f in ((suc r.0.0, let l = r.0.1 in omega arith, r.0.2), r.1)

-- what is found stands in the list, and passes the test
pub found_stands : {A : Type 0} (test : A → Bool) (xs : List A) (x : A) → find test xs ≡ Some x → Stands test xs x
found_stands test [] x e = absurd (cc)
found_stands test (y ∷ xs) x e = found_here test y xs x (test y) refl e (found_stands test xs x)
