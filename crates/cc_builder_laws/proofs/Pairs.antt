-- Lists whose elements go in pairs.
use Rattle.std.proofs.Common.{◌≡◌, ◌≢◌, ℕ, zero, suc, List, [], ◌∷◌, ◌++◌, get_or, Some, refl, ap, subst}
use Rattle.std.specs.Prelude.{All, Contains, slice_get}
use Rattle.std.proofs.lemmas.Option.{slice_get_within, get_or_from_slice_get, slice_get-get_or}
use Rattle.cc_meaning_dex.specs.Classes.{EachPair}

-- what stands at a place is among the elements
pub contained : {A : Type 0} (xs : List A) (place : ℕ) (x : A) → slice_get xs place ≡ Some x → Contains xs x
contained xs place x e = (place, slice_get_within xs place x e, get_or_from_slice_get xs place x x e)

-- each element has a place
pub all_of : {A : Type 0} (P : A → Type 0) (xs : List A) → ((place : ℕ) (x : A) → slice_get xs place ≡ Some x → P x) → All P xs
all_of P xs each place d within = each place (get_or xs place d) (slice_get-get_or xs place d within)

-- what goes with a first
pub left : {A B : Type 0} (R : A → B → Type 0) (xs : List A) (ys : List B) → EachPair R xs ys → (place : ℕ) (x : A) → slice_get xs place ≡ Some x → (y : B) × (slice_get ys place ≡ Some y) × R x y
left R [] [] pairs place x e = absurd cc
left R [] (y ∷ ys) pairs place x e = absurd pairs
left R (z ∷ xs) [] pairs place x e = absurd pairs
left R (z ∷ xs) (y ∷ ys) (here, behind) zero x e = let same : z ≡ x = cc in (y, refl, subst (λ it. R it y) same here)
left R (z ∷ xs) (y ∷ ys) (here, behind) (suc place) x e = left R xs ys behind place x e

-- what goes with a second
pub right : {A B : Type 0} (R : A → B → Type 0) (xs : List A) (ys : List B) → EachPair R xs ys → (place : ℕ) (y : B) → slice_get ys place ≡ Some y → (x : A) × (slice_get xs place ≡ Some x) × R x y
right R [] [] pairs place y e = absurd cc
right R [] (z ∷ ys) pairs place y e = absurd pairs
right R (x ∷ xs) [] pairs place y e = absurd pairs
right R (x ∷ xs) (z ∷ ys) (here, behind) zero y e = let same : z ≡ y = cc in (x, refl, subst (λ it. R x it) same here)
right R (x ∷ xs) (z ∷ ys) (here, behind) (suc place) y e = right R xs ys behind place y e

-- each pair is one of another kind, by its place
pub mapped : {A B : Type 0} (R Q : A → B → Type 0) (xs : List A) (ys : List B) → EachPair R xs ys → ((place : ℕ) (x : A) (y : B) → slice_get xs place ≡ Some x → slice_get ys place ≡ Some y → R x y → Q x y) → EachPair Q xs ys
mapped R Q [] [] pairs each = tt
mapped R Q [] (y ∷ ys) pairs each = absurd pairs
mapped R Q (x ∷ xs) [] pairs each = absurd pairs
mapped R Q (x ∷ xs) (y ∷ ys) (here, behind) each = (each 0 x y refl refl here, mapped R Q xs ys behind (λ place a b is_a is_b both. each (suc place) a b is_a is_b both))

-- firsts are there where seconds are
pub some_left : {A B : Type 0} (R : A → B → Type 0) (xs : List A) (ys : List B) → EachPair R xs ys → xs ≢ [] → ys ≢ []
some_left R [] ys pairs some none = some refl
some_left R (x ∷ xs) [] pairs some none = pairs
some_left R (x ∷ xs) (y ∷ ys) pairs some none = cc

-- a first that seconds stand around
pub record Split {A B : Type 0} (R : A → B → Type 0) (xs : List A) (y : B) (back : List B) : Type 0 where
  pub front : List A
  pub item : A
  pub rest : List A
  pub form : xs ≡ front ++ (item ∷ rest)
  pub pair : R item y
  pub behind : EachPair R rest back

pub split : {A B : Type 0} (R : A → B → Type 0) (xs : List A) (ys front back : List B) (y : B) → EachPair R xs ys → ys ≡ front ++ (y ∷ back) → Split R xs y back
split {A = A} {B = B} R xs ys front back y pairs e = split_at xs front (subst (λ all. EachPair R xs all) e pairs)
  where
    split_at : (xs : List A) (front : List B) → EachPair R xs (front ++ (y ∷ back)) → Split R xs y back
    split_at [] [] pairs = absurd pairs
    split_at [] (z ∷ front) pairs = absurd pairs
    split_at (x ∷ xs) [] (here, behind) = record { front = []; item = x; rest = xs; form = refl; pair = here; behind = behind }
    split_at (x ∷ xs) (z ∷ front) (here, behind) =
        let more = split_at xs front behind in
        record { front = x ∷ more.front; item = more.item; rest = more.rest; form = ap (λ all. x ∷ all) more.form; pair = more.pair; behind = more.behind }

pub none_right : {A B : Type 0} (R : A → B → Type 0) (ys : List B) → EachPair R [] ys → ys ≡ []
none_right R [] pairs = refl
none_right R (y ∷ ys) pairs = absurd pairs

pub none_left : {A B : Type 0} (R : A → B → Type 0) (xs : List A) → EachPair R xs [] → xs ≡ []
none_left R [] pairs = refl
none_left R (x ∷ xs) pairs = absurd pairs
