-- What is in a list, and where.
use Rattle.std.proofs.Common.{◌≡◌, ◌⊎◌, inl, inr, ℕ, zero, suc, ◌+◌, ◌<◌, ◌≤◌, Bool, true, false, not, cond, List, [], ◌∷◌, ◌++◌, length, Some, position, refl, sym, ap, ◌∙◌, subst, arith, slice_get}
use Rattle.std.specs.Prelude.{reverse, ◌==◌}
use Rattle.std.specs.List.{flat_map, position_or_len}
use Rattle.std.proofs.lemmas.Grind.{reverse_onto}
use Rattle.std.proofs.lemmas.Option.{slice_get_within}
use Rattle.cc_program_laws.proofs.Lists.{position_is, some_same}
use Rattle.cc_meaning_typing.proofs.Tree.{test_eq}

abbrev pub In : {A : Type 0} → A → List A → Type 0
In x [] = ⊥
In x (y ∷ ys) = (x ≡ y) ⊎ In x ys

pub in_left : {A : Type 0} (x : A) (xs ys : List A) → In x xs → In x (xs ++ ys)
in_left x [] ys h = absurd h
in_left x (y ∷ xs) ys (inl e) = inl e
in_left x (y ∷ xs) ys (inr h) = inr (in_left x xs ys h)

pub in_right : {A : Type 0} (x : A) (xs ys : List A) → In x ys → In x (xs ++ ys)
in_right x [] ys h = h
in_right x (y ∷ xs) ys h = inr (in_right x xs ys h)

pub in_parts : {A : Type 0} (x : A) (xs ys : List A) → In x (xs ++ ys) → In x xs ⊎ In x ys
in_parts x [] ys h = inr h
in_parts x (y ∷ xs) ys (inl e) = inl (inl e)
in_parts x (y ∷ xs) ys (inr h) = elim (in_parts x xs ys h) [ inl a ↦ inl (inr a) | inr b ↦ inr b ]

pub reverse_in : {A : Type 0} (x : A) (xs : List A) → In x xs → In x (reverse xs)
reverse_in x [] h = h
reverse_in x (y ∷ ys) (inl e) = subst (In x) (sym (reverse_onto ys y [])) (in_right x (reverse ys) (y ∷ []) (inl e))
reverse_in x (y ∷ ys) (inr h) = subst (In x) (sym (reverse_onto ys y [])) (in_left x (reverse ys) (y ∷ []) (reverse_in x ys h))

pub in_reverse : {A : Type 0} (x : A) (xs : List A) → In x (reverse xs) → In x xs
in_reverse x [] h = h
in_reverse x (y ∷ ys) h = elim (in_parts x (reverse ys) (y ∷ []) (subst (In x) (reverse_onto ys y []) h)) [
  | inl a ↦ inr (in_reverse x ys a)
  | inr b ↦ only b
]
  where
    only : In x (y ∷ []) → In x (y ∷ ys)
    only (inl e) = inl e
    only (inr h) = absurd h

pub in_flat : {A B : Type 0} (f : A → List B) (xs : List A) (y : B) → In y (flat_map f xs) → (x : A) × In x xs × In y (f x)
in_flat f [] y h = absurd h
in_flat f (x ∷ xs) y h = elim (in_parts y (f x) (flat_map f xs) h) [
  | inl a ↦ (x, inl refl, a)
  | inr b ↦ (let r = in_flat f xs y b in (r.0, inr r.1, r.2))
]

pub flat_in : {A B : Type 0} (f : A → List B) (xs : List A) (x : A) (y : B) → In x xs → In y (f x) → In y (flat_map f xs)
flat_in f [] x y h m = absurd h
flat_in f (z ∷ xs) x y (inl e) m = in_left y (f z) (flat_map f xs) (subst (λ w. In y (f w)) e m)
flat_in f (z ∷ xs) x y (inr h) m = in_right y (f z) (flat_map f xs) (flat_in f xs x y h m)

pub none_in : {A : Type 0} (xs : List A) → ((x : A) → In x xs → ⊥) → xs ≡ []
none_in [] none = refl
none_in (x ∷ xs) none = absurd (none x (inl refl))

pub in_at : {A : Type 0} (x : A) (xs : List A) → In x xs → (k : ℕ) × (slice_get xs k ≡ Some x)
in_at x [] h = absurd h
in_at x (y ∷ ys) (inl e) = (0, ap Some (sym e))
in_at x (y ∷ ys) (inr h) = let r = in_at x ys h in (suc r.0, r.1)

-- ---- the first place

first_before : {A : Type 0} (test : A → Bool) (xs : List A) (k : ℕ) (x : A) → slice_get xs k ≡ Some x → test x ≡ true → position_or_len test xs ≤ k
first_before test [] k x e t = absurd cc
first_before test (y ∷ ys) zero x e t = let u : test y ≡ true = ap test (some_same y x e) ∙ t in subst (λ b. cond (not b) (1 + position_or_len test ys) 0 ≤ 0) (sym u) (omega arith)
first_before test (y ∷ ys) (suc k) x e t = by (test y) (first_before test ys k x e t)
  where
    by : (b : Bool) → position_or_len test ys ≤ k → cond (not b) (1 + position_or_len test ys) 0 ≤ suc k
    by true h = omega arith
    by false h = omega (arith, h)

place_found : {A : Type 0} (test : A → Bool) (xs : List A) (i : ℕ) → position_or_len test xs ≡ i → i < length xs → position test xs ≡ Some i
place_found test xs i e h = grind (arith, e, h)

-- what passes a test has a first place
pub position_there : {A : Type 0} (test : A → Bool) (xs : List A) (k : ℕ) (x : A) → slice_get xs k ≡ Some x → test x ≡ true → (i : ℕ) × (position test xs ≡ Some i)
position_there test xs k x e t =
    let within = slice_get_within xs k x e in
    let before = first_before test xs k x e t in
    (position_or_len test xs, place_found test xs (position_or_len test xs) refl (omega (arith, within, before)))

-- a number that is in a list has a first place there
pub number_there : (f : ℕ) (xs : List ℕ) → In f xs → (i : ℕ) × (position (λ g. g == f) xs ≡ Some i) × (slice_get xs i ≡ Some f)
number_there f xs h =
    let at = in_at f xs h in
    let same : (f == f) ≡ true = elim (test_eq f f) [ inl t ↦ t.0 | inr t ↦ absurd (t.1 refl) ] in
    let first = position_there (λ g. g == f) xs at.0 f at.1 same in
    let found = position_is (λ g. g == f) xs first.0 first.1 in
    let is : found.0 ≡ f = elim (test_eq found.0 f) [ inl t ↦ t.1 | inr t ↦ absurd (let q = found.2 in let r = t.0 in cc) ] in
    (first.0, first.1, found.1 ∙ ap Some is)
