-- The items of a list that pass a test, or those that don't, are taken one by one.
use Rattle.std.proofs.Common.{◌≡◌, ℕ, ◌+◌, ◌<◌, ◌≤◌, Bool, true, false, not, cond, List, [], ◌∷◌, drop, length, refl, sym, ap, ◌∙◌, slice_index_or}
use mathlib.Core.Bool.{beq}
use Rattle.std.specs.List.{filter}
use Rattle.std.proofs.lemmas.List.{drop_more, drop_all}

abbrev pub chosen : {X : Type 0} → (X → Bool) → Bool → List X → List X
chosen test wanted items = cond wanted (filter test items) (filter (λ x. not (test x)) items)

pub next : {X : Type 0} (xs : List X) (i : ℕ) (x d : X) → i < length xs → x ≡ slice_index_or xs i d → drop i xs ≡ x ∷ drop (i + 1) xs
next {X} xs i x d here is = drop_more xs i d here ∙ ap (λ (y : X). y ∷ drop (i + 1) xs) (sym is)

front_in : {X : Type 0} (test : X → Bool) (wanted : Bool) (x : X) (xs : List X) → test x ≡ wanted → chosen test wanted (x ∷ xs) ≡ x ∷ chosen test wanted xs
front_in test true x xs is = rw is refl
front_in test false x xs is = rw is refl

front_out : {X : Type 0} (test : X → Bool) (wanted : Bool) (x : X) (xs : List X) → test x ≡ not wanted → chosen test wanted (x ∷ xs) ≡ chosen test wanted xs
front_out test true x xs is = rw is refl
front_out test false x xs is = rw is refl

same : (a b : Bool) → beq a b ≡ true → a ≡ b
same true true is = refl
same false false is = refl
same true false is = absurd cc
same false true is = absurd cc

other : (a b : Bool) → beq a b ≡ false → a ≡ not b
other true false is = refl
other false true is = refl
other true true is = absurd cc
other false false is = absurd cc

-- an item that is chosen, and those behind it
pub chosen_in : {X : Type 0} (test : X → Bool) (wanted : Bool) (xs : List X) (i : ℕ) (x d : X) → i < length xs → x ≡ slice_index_or xs i d → beq (test x) wanted ≡ true →
    chosen test wanted (drop i xs) ≡ x ∷ chosen test wanted (drop (i + 1) xs)
chosen_in test wanted xs i x d here is fits = ap (chosen test wanted) (next xs i x d here is) ∙ front_in test wanted x (drop (i + 1) xs) (same (test x) wanted fits)

-- an item that isn't
pub chosen_out : {X : Type 0} (test : X → Bool) (wanted : Bool) (xs : List X) (i : ℕ) (x d : X) → i < length xs → x ≡ slice_index_or xs i d → beq (test x) wanted ≡ false →
    chosen test wanted (drop i xs) ≡ chosen test wanted (drop (i + 1) xs)
chosen_out test wanted xs i x d here is differs = ap (chosen test wanted) (next xs i x d here is) ∙ front_out test wanted x (drop (i + 1) xs) (other (test x) wanted differs)

none : {X : Type 0} (test : X → Bool) (wanted : Bool) → chosen test wanted [] ≡ []
none test true = refl
none test false = refl

pub chosen_end : {X : Type 0} (test : X → Bool) (wanted : Bool) (xs : List X) (i : ℕ) → length xs ≤ i → chosen test wanted (drop i xs) ≡ []
chosen_end test wanted xs i past = ap (chosen test wanted) (drop_all i xs past) ∙ none test wanted
