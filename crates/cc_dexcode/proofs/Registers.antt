-- Registers that parameters take, one after the other.
use Rattle.std.proofs.Common.{◌≡◌, ℕ, ◌+◌, ◌-◌, ◌<◌, ◌≤◌, false, eqb, List, length, get_or, take, ap, arith}
use Rattle.std.specs.List.{sum_by}
use Rattle.std.proofs.lemmas.Bool.Decides.{nat_tests}
use Rattle.std.proofs.lemmas.List.Sums.{sum_by_more, sum_by-take-le}
use Rattle.std.proofs.lemmas.List.{take_all}

pub too_many : (f : ℕ → ℕ) (xs : List ℕ) (i left width receiver registers : ℕ) → i < length xs → registers ≡ sum_by f (take i xs) + left → width ≡ f (get_or xs i 0) → left < width →
    false ≡ eqb (receiver + sum_by f xs) registers
too_many f xs i left width receiver registers below so_far is more =
    let one = sum_by_more f xs i 0 below in
    let all = sum_by-take-le f xs (i + 1) in
    let past : registers < receiver + sum_by f xs = omega (arith, one, all) in
    other (receiver + sum_by f xs) registers past
  where
    other : (a b : ℕ) → b < a → false ≡ eqb a b
    other a b h = grind (arith, nat_tests)

pub one_more : (f : ℕ → ℕ) (xs : List ℕ) (i left width registers : ℕ) → i < length xs → registers ≡ sum_by f (take i xs) + left → width ≡ f (get_or xs i 0) → width ≤ left →
    registers ≡ sum_by f (take (i + 1) xs) + (left - width)
one_more f xs i left width registers below so_far is fits = omega (arith, sum_by_more f xs i 0 below)

pub all_taken : (f : ℕ → ℕ) (xs : List ℕ) (i left receiver registers : ℕ) → length xs ≤ i → registers ≡ sum_by f (take i xs) + left →
    eqb left receiver ≡ eqb (receiver + sum_by f xs) registers
all_taken f xs i left receiver registers all so_far =
    let sum : sum_by f (take i xs) ≡ sum_by f xs = ap (sum_by f) (take_all i xs all) in
    same left receiver (sum_by f xs) registers (omega (arith, sum, so_far))
  where
    same : (left receiver taken registers : ℕ) → registers ≡ taken + left → eqb left receiver ≡ eqb (receiver + taken) registers
    same left receiver taken registers e = grind (arith, nat_tests)
