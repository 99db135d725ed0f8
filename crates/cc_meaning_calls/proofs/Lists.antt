-- Lists of numbers, checked by computation.
use Rattle.std.proofs.Common.{inl, inr, subst, ℕ, ◌≡◌, ◌<◌, zero, suc, arith, List, [], ◌∷◌, Bool, true, get_or}
use Rattle.std.specs.Prelude.{◌==◌, ◌&&◌, nat_lt, AllPairs, Contains}
use Rattle.std.specs.List.{list_all, AllByRecursion}
use Rattle.std.proofs.lemmas.Bool.{eqb-true, eq-eqb, ltb-true}
use Rattle.std.proofs.lemmas.List.Sums.{AllPass-from_list_all}
use Rattle.cc_meaning_calls.specs.Calls.{IsListOf}
use Rattle.cc_meaning_calls.proofs.Closed.{is_in, and_left, and_right, or_case, or_left, or_right}

pub contains : (list : List ℕ) (m : ℕ) → is_in m list ≡ true → Contains list m
contains [] m h = cc
contains (x ∷ rest) m h = elim (or_case (x == m) (is_in m rest) h) [
  | inl e ↦ (0, omega arith, eqb-true x m e)
  | inr later ↦ let r = contains rest m later in (suc r.0, omega (arith, r.1), r.2)
]

pub among : (list : List ℕ) (m : ℕ) → Contains list m → is_in m list ≡ true
among [] m c = absurd (omega (arith, c.1))
among (x ∷ rest) m (zero, l, e) = or_left (x == m) (is_in m rest) (eq-eqb x m e)
among (x ∷ rest) m (suc k, l, e) = or_right (x == m) (is_in m rest) (among rest m (k, omega (arith, l), e))

pub each : (P : ℕ → Type 0) (list : List ℕ) → AllByRecursion P list → (m : ℕ) → Contains list m → P m
each P [] h m c = absurd (omega (arith, c.1))
each P (x ∷ rest) h m (zero, l, e) = subst P e h.0
each P (x ∷ rest) h m (suc k, l, e) = each P rest h.1 m (k, omega (arith, l), e)

abbrev pub rising : List ℕ → Bool
rising [] = true
rising (x ∷ rest) = list_all (λ y. nat_lt x y) rest && rising rest

pub rises : (list : List ℕ) → rising list ≡ true → AllPairs (λ (a : ℕ) (b : ℕ). a < b) list
rises [] h i j d l b = absurd (omega (arith, b))
rises (x ∷ rest) h zero zero d l b = absurd (omega (arith, l))
rises (x ∷ rest) h zero (suc j) d l b = ltb-true x (get_or rest j d) (AllPass-from_list_all (λ y. nat_lt x y) rest (and_left (list_all (λ y. nat_lt x y) rest) (rising rest) h) j d (omega (arith, b)))
rises (x ∷ rest) h (suc i) zero d l b = absurd (omega (arith, l))
rises (x ∷ rest) h (suc i) (suc j) d l b = rises rest (and_right (list_all (λ y. nat_lt x y) rest) (rising rest) h) i j d (omega (arith, l)) (omega (arith, b))

-- a list is one of exactly the numbers of which a predicate holds
pub is_list_of : (P : ℕ → Type 0) (list : List ℕ) → rising list ≡ true → AllByRecursion P list → ((m : ℕ) → P m → is_in m list ≡ true) → IsListOf P list
is_list_of P list h all within = record { rises = rises list h; sound = each P list all; complete = λ m holds. contains list m (within m holds) }
