-- What lists contain.
use Rattle.std.proofs.Common.{◌≡◌, ◌⊎◌, inl, inr, ℕ, zero, suc, List, [], ◌∷◌, refl, sym, subst, arith}
use Rattle.std.specs.Prelude.{Contains}
use Rattle.std.specs.List.{flat_map}
use Rattle.std.proofs.lemmas.List.Elements.{Contains-append_left, Contains-append_right, Contains-append_cases}
use Rattle.cc_meaning_dex.specs.Classes.{EachPair}
use Rattle.cc_names.specs.InOrder.{AreInOrder}
use Rattle.cc_names.proofs.Ordered.{mapped_from}

pub contains_cases : {A : Type 0} (x : A) (xs : List A) (y : A) → Contains (x ∷ xs) y → (x ≡ y) ⊎ Contains xs y
contains_cases x xs y (zero, within, is) = inl is
contains_cases x xs y (suc place, within, is) = inr (place, omega arith, is)

pub contains_first : {A : Type 0} (x : A) (xs : List A) → Contains (x ∷ xs) x
contains_first x xs = (0, omega arith, refl)

pub contains_later : {A : Type 0} (x : A) (xs : List A) (y : A) → Contains xs y → Contains (x ∷ xs) y
contains_later x xs y (place, within, is) = (suc place, omega arith, is)

pub contains_none : {A : Type 0} (x : A) → Contains [] x → ⊥
contains_none x (place, within, is) = absurd (omega arith)

pub contains_one : {A : Type 0} (x y : A) → Contains (x ∷ []) y → x ≡ y
contains_one x y (zero, within, is) = is
contains_one x y (suc place, within, is) = absurd (omega arith)

pub contains_flat : {A B : Type 0} (of : A → List B) (xs : List A) (x : A) (y : B) → Contains xs x → Contains (of x) y → Contains (flat_map of xs) y
contains_flat of [] x y among one = absurd (contains_none x among)
contains_flat {A} {B} of (first ∷ rest) x y among one = elim (contains_cases first rest x among) [
  | inl same ↦ Contains-append_left (of first) (flat_map of rest) y (subst (λ (it : A). Contains (of it) y) (sym same) one)
  | inr later ↦ Contains-append_right (of first) (flat_map of rest) y (contains_flat of rest x y later one)
]

pub found_flat : {A B : Type 0} (of : A → List B) (xs : List A) (y : B) → Contains (flat_map of xs) y → (x : A) × Contains xs x × Contains (of x) y
found_flat of [] y among = absurd (contains_none y among)
found_flat {A} {B} of (first ∷ rest) y among = elim (Contains-append_cases (of first) (flat_map of rest) y among) [
  | inl here ↦ (first, (0, omega arith, refl), here)
  | inr later ↦
      let found = found_flat of rest y later in
      let behind = found.1 in
      (found.0, (suc behind.0, omega arith, behind.2), found.2)
]

-- ---- pairs

pub left_of : {A B : Type 0} (holds : A → B → Type 0) (xs : List A) (ys : List B) (y : B) → EachPair holds xs ys → Contains ys y → (x : A) × Contains xs x × holds x y
left_of holds [] [] y pairs here = absurd (contains_none y here)
left_of holds [] (b ∷ ys) y pairs here = absurd pairs
left_of holds (a ∷ xs) [] y pairs here = absurd pairs
left_of {A} {B} holds (a ∷ xs) (b ∷ ys) y (first, rest) here = elim (contains_cases b ys y here) [
  | inl same ↦ (a, contains_first a xs, subst (holds a) same first)
  | inr later ↦ let found = left_of holds xs ys y rest later in (found.0, contains_later a xs found.0 found.1, found.2)
]

pub right_of : {A B : Type 0} (holds : A → B → Type 0) (xs : List A) (ys : List B) (x : A) → EachPair holds xs ys → Contains xs x → (y : B) × Contains ys y × holds x y
right_of holds [] [] x pairs here = absurd (contains_none x here)
right_of holds [] (b ∷ ys) x pairs here = absurd pairs
right_of holds (a ∷ xs) [] x pairs here = absurd pairs
right_of {A} {B} holds (a ∷ xs) (b ∷ ys) x (first, rest) here = elim (contains_cases a xs x here) [
  | inl same ↦ (b, contains_first b ys, subst (λ (it : A). holds it b) same first)
  | inr later ↦ let found = right_of holds xs ys x rest later in (found.0, contains_later b ys found.0 found.1, found.2)
]

-- ---- in order

-- what is given stays, where a key is of one thing only
pub kept : {A : Type 0} (key : A → List ℕ) (given items : List A) → ((a b : A) → key a ≡ key b → a ≡ b) → AreInOrder key given items → (x : A) → Contains given x → Contains items x
kept key given items one are x here =
    let (y, there, is) = mapped_from key items (key x) (are.named x here) in
    subst (Contains items) (one y x is) there
