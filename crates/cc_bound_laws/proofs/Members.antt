-- Members of lists of numbers, by a test and by their places.
use Rattle.std.proofs.Common.{◌≡◌, ◌⊎◌, inl, inr, ℕ, zero, suc, ◌==◌, ◌||◌, List, [], ◌∷◌, Bool, true, false, refl, arith, eq-eqb, eqb-true}
use Rattle.std.specs.List.{list_any, Contains}

or_case : (a b : Bool) → (a || b) ≡ true → (a ≡ true) ⊎ (b ≡ true)
or_case true b h = inl refl
or_case false b h = inr h

or_left : (a b : Bool) → a ≡ true → (a || b) ≡ true
or_left true b h = refl
or_left false b h = cc

or_right : (a b : Bool) → b ≡ true → (a || b) ≡ true
or_right true b h = refl
or_right false b h = h

pub either_is : (a b : Bool) → (a || b) ≡ true → (a ≡ true) ⊎ (b ≡ true)
either_is a b h = or_case a b h

pub left_is : (a b : Bool) → a ≡ true → (a || b) ≡ true
left_is a b h = or_left a b h

pub right_is : (a b : Bool) → b ≡ true → (a || b) ≡ true
right_is a b h = or_right a b h

abbrev pub is_in : ℕ → List ℕ → Bool
is_in m list = list_any (λ other. other == m) list

pub contains : (list : List ℕ) (m : ℕ) → is_in m list ≡ true → Contains list m
contains [] m h = cc
contains (x ∷ rest) m h = elim (or_case (x == m) (is_in m rest) h) [
  | inl e ↦ (0, omega arith, eqb-true x m e)
  | inr later ↦ let r = contains rest m later in (suc r.0, omega (arith, r.1), r.2)
]

pub among : (list : List ℕ) (m : ℕ) → Contains list m → is_in m list ≡ true
among [] m c = absurd (omega (arith, c.1))
among (x ∷ rest) m (zero, l, e) = or_left (x == m) (is_in m rest) (eq-eqb x m e)
among (x ∷ rest) m (suc k, l, e) = or_right (x == m) (is_in m rest) (among rest m (k, omega (arith, l), e))
