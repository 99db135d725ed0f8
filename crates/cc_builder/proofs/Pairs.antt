-- Lists whose elements go in pairs: one more pair, pairs in another order, and those that pass a test.
use Rattle.std.proofs.Common.{◌≡◌, ℕ, zero, suc, ◌+◌, ◌<◌, ◌≤◌, Bool, true, false, cond, List, [], ◌∷◌, ◌++◌, length, take, get_or, set, refl, sym, ap, subst, arith, ◌∙◌}
use Rattle.std.specs.Prelude.{map}
use Rattle.std.specs.List.{filter, swap}
use Rattle.std.specs.List.Sorted.{IsPermutation, SwapsInRange, apply_swaps}
use Rattle.std.proofs.lemmas.List.{take_more, take_all}
use Rattle.std.proofs.lemmas.List.Edits.{length-swap}
use Rattle.cc_meaning_dex.specs.Classes.{EachPair}

pub pushed : {A B : Type 0} (R : A → B → Type 0) (xs : List A) (ys : List B) (x : A) (y : B) → EachPair R xs ys → R x y → EachPair R (xs ++ x ∷ []) (ys ++ y ∷ [])
pushed R [] [] x y pairs pair = (pair, tt)
pushed R [] (z ∷ ys) x y pairs pair = absurd pairs
pushed R (z ∷ xs) [] x y pairs pair = absurd pairs
pushed R (z ∷ xs) (w ∷ ys) x y (here, behind) pair = (here, pushed R xs ys x y behind pair)

-- the pairs up to the next place
pub one_more : {A B : Type 0} (R : A → B → Type 0) (xs : List A) (ys : List B) (place : ℕ) (x : A) (y : B) → EachPair R (take place xs) ys → place < length xs → x ≡ get_or xs place x → R x y → EachPair R (take (place + 1) xs) (ys ++ y ∷ [])
one_more R xs ys place x y pairs within is pair =
    let one = pushed R (take place xs) ys x y pairs pair in
    subst (λ all. EachPair R all (ys ++ y ∷ [])) (sym (take_more xs place x within)) (subst (λ it. EachPair R (take place xs ++ it ∷ []) (ys ++ y ∷ [])) is one)

-- all pairs
pub whole : {A B : Type 0} (R : A → B → Type 0) (xs : List A) (ys : List B) (place : ℕ) → EachPair R (take place xs) ys → length xs ≤ place → EachPair R xs ys
whole R xs ys place pairs end = subst (λ all. EachPair R all ys) (take_all place xs end) pairs

pub same_length : {A B : Type 0} (R : A → B → Type 0) (xs : List A) (ys : List B) → EachPair R xs ys → length xs ≡ length ys
same_length R [] [] pairs = refl
same_length R [] (y ∷ ys) pairs = absurd pairs
same_length R (x ∷ xs) [] pairs = absurd pairs
same_length R (x ∷ xs) (y ∷ ys) (here, behind) = ap suc (same_length R xs ys behind)

pub pair_at : {A B : Type 0} (R : A → B → Type 0) (xs : List A) (ys : List B) (place : ℕ) (d : A) (e : B) → EachPair R xs ys → place < length xs → R (get_or xs place d) (get_or ys place e)
pair_at R [] [] place d e pairs within = absurd (omega (arith, within))
pair_at R [] (y ∷ ys) place d e pairs within = absurd pairs
pair_at R (x ∷ xs) [] place d e pairs within = absurd pairs
pair_at R (x ∷ xs) (y ∷ ys) zero d e (here, behind) within = here
pair_at R (x ∷ xs) (y ∷ ys) (suc place) d e (here, behind) within = pair_at R xs ys place d e behind (omega (arith, within))

-- ---- in another order

pub replaced : {A B : Type 0} (R : A → B → Type 0) (xs : List A) (ys : List B) (place : ℕ) (x : A) (y : B) → EachPair R xs ys → R x y → EachPair R (set xs place x) (set ys place y)
replaced R [] [] place x y pairs pair = tt
replaced R [] (w ∷ ys) place x y pairs pair = absurd pairs
replaced R (z ∷ xs) [] place x y pairs pair = absurd pairs
replaced R (z ∷ xs) (w ∷ ys) zero x y (here, behind) pair = (pair, behind)
replaced R (z ∷ xs) (w ∷ ys) (suc place) x y (here, behind) pair = (here, replaced R xs ys place x y behind pair)

pub exchanged : {A B : Type 0} (R : A → B → Type 0) (xs : List A) (ys : List B) (one other : ℕ) → EachPair R xs ys → one < length xs → other < length xs → EachPair R (swap xs one other) (swap ys one other)
exchanged R [] [] one other pairs first second = tt
exchanged R [] (y ∷ ys) one other pairs first second = absurd pairs
exchanged R (x ∷ xs) [] one other pairs first second = absurd pairs
exchanged R (x ∷ xs) (y ∷ ys) one other pairs first second =
    replaced R (set (x ∷ xs) one (get_or (x ∷ xs) other x)) (set (y ∷ ys) one (get_or (y ∷ ys) other y)) other (get_or (x ∷ xs) one x) (get_or (y ∷ ys) one y)
    (replaced R (x ∷ xs) (y ∷ ys) one (get_or (x ∷ xs) other x) (get_or (y ∷ ys) other y) pairs (pair_at R (x ∷ xs) (y ∷ ys) other x y pairs second))
    (pair_at R (x ∷ xs) (y ∷ ys) one x y pairs first)

pub moved : {A B : Type 0} (R : A → B → Type 0) (xs : List A) (ys : List B) (moves : List (ℕ × ℕ)) → EachPair R xs ys → SwapsInRange (length xs) moves →
    EachPair R (apply_swaps xs moves) (apply_swaps ys moves) × (length (apply_swaps xs moves) ≡ length xs)
moved R xs ys [] pairs within = (pairs, refl)
moved R xs ys (move ∷ moves) pairs within =
    let before = moved R xs ys moves pairs within.2 in (
      exchanged R (apply_swaps xs moves) (apply_swaps ys moves) move.0 move.1 before.0 (omega (arith, before.1, within.0)) (omega (arith, before.1, within.1)),
      length-swap (apply_swaps xs moves) move.0 move.1 ∙ before.1,
    )

-- what goes with the seconds in another order is the firsts in another order
pub record Reordered {A B : Type 0} (R : A → B → Type 0) (xs : List A) (ys : List B) : Type 0 where
  pub firsts : List A
  pub all : IsPermutation xs firsts
  pub each : EachPair R firsts ys

pub reordered : {A B : Type 0} (R : A → B → Type 0) (xs : List A) (ys zs : List B) → EachPair R xs ys → IsPermutation ys zs → Reordered R xs zs
reordered {A = A} R xs ys zs pairs order =
    let range : SwapsInRange (length xs) order.moves = subst (λ n. SwapsInRange n order.moves) (sym (same_length R xs ys pairs)) order.below in
    let firsts : List A = apply_swaps xs order.moves in
    record {
      firsts = firsts;
      all = record { moves = order.moves; below = range; is = refl };
      each = subst (λ all. EachPair R firsts all) (sym order.is) (moved R xs ys order.moves pairs range).0;
    }

-- ---- parts

-- those that pass tests which go together
pub passing : {A B : Type 0} (R : A → B → Type 0) (p : A → Bool) (q : B → Bool) → ((x : A) (y : B) → R x y → p x ≡ q y) → (xs : List A) (ys : List B) → EachPair R xs ys → EachPair R (filter p xs) (filter q ys)
passing R p q same [] [] pairs = tt
passing R p q same [] (y ∷ ys) pairs = absurd pairs
passing R p q same (x ∷ xs) [] pairs = absurd pairs
passing R p q same (x ∷ xs) (y ∷ ys) (here, behind) = by (p x) (q y) (same x y here) (passing R p q same xs ys behind)
  where
    by : (one other : Bool) → one ≡ other → EachPair R (filter p xs) (filter q ys) → EachPair R (cond one (x ∷ filter p xs) (filter p xs)) (cond other (y ∷ filter q ys) (filter q ys))
    by true true e rest = (here, rest)
    by true false e rest = absurd cc
    by false true e rest = absurd cc
    by false false e rest = rest

-- the first few
pub first_few : {A B : Type 0} (R : A → B → Type 0) (count : ℕ) (xs : List A) (ys : List B) → EachPair R xs ys → EachPair R (take count xs) (take count ys)
first_few R zero xs ys pairs = tt
first_few R (suc count) [] [] pairs = tt
first_few R (suc count) [] (y ∷ ys) pairs = absurd pairs
first_few R (suc count) (x ∷ xs) [] pairs = absurd pairs
first_few R (suc count) (x ∷ xs) (y ∷ ys) (here, behind) = (here, first_few R count xs ys behind)

-- what each second gives
pub given : {A B C : Type 0} (R : A → B → Type 0) (Q : A → C → Type 0) (f : B → C) → ((x : A) (y : B) → R x y → Q x (f y)) → (xs : List A) (ys : List B) → EachPair R xs ys → EachPair Q xs (map f ys)
given R Q f each [] [] pairs = tt
given R Q f each [] (y ∷ ys) pairs = absurd pairs
given R Q f each (x ∷ xs) [] pairs = absurd pairs
given R Q f each (x ∷ xs) (y ∷ ys) (here, behind) = (each x y here, given R Q f each xs ys behind)

-- what each second gives, where that is a function of the first
pub same_values : {A B C : Type 0} (R : A → B → Type 0) (f : B → C) (g : A → C) → ((x : A) (y : B) → R x y → f y ≡ g x) → (xs : List A) (ys : List B) → EachPair R xs ys → map f ys ≡ map g xs
same_values R f g each [] [] pairs = refl
same_values R f g each [] (y ∷ ys) pairs = absurd pairs
same_values R f g each (x ∷ xs) [] pairs = absurd pairs
same_values R f g each (x ∷ xs) (y ∷ ys) (here, behind) = cons (each x y here) (same_values R f g each xs ys behind)
  where
    cons : f y ≡ g x → map f ys ≡ map g xs → f y ∷ map f ys ≡ g x ∷ map g xs
    cons head tail = cc
