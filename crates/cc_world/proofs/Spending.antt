-- What is left of a number where some are taken.
use Rattle.std.proofs.Common.{◌≡◌, ℕ, zero, suc, ◌-◌, ◌<◌, ◌≤◌, Some, None, refl, arith}
use Rattle.cc_meaning_world.specs.Changes.{less_by}

pub enough : (k n : ℕ) → k ≤ n → less_by k n ≡ Some (n - k)
unfolding less_by
enough zero n h = grind arith
enough (suc k) zero h = absurd (omega (arith, h))
enough (suc k) (suc n) h = grind (arith, enough k n (omega (arith, h)))

pub too_few : (k n : ℕ) → n < k → less_by k n ≡ None
unfolding less_by
too_few zero n h = absurd (omega (arith, h))
too_few (suc k) zero h = refl
too_few (suc k) (suc n) h = too_few k n (omega (arith, h))
