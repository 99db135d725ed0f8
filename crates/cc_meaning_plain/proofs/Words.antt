-- Words are taken where there are enough, and else not.
use Rattle.std.proofs.Common.{◌≡◌, ℕ, zero, suc, ◌-◌, ◌<◌, ◌≤◌, Some, None, refl, ap, ◌∙◌, arith}
use Rattle.cc_meaning_run.specs.Acts.{less_by}

pub less_some : (n k : ℕ) → n ≤ k → less_by n k ≡ Some (k - n)
unfolding less_by
less_some zero k h = ap Some (omega arith)
less_some (suc n) zero h = absurd (omega arith)
less_some (suc n) (suc k) h = less_some n k (omega arith) ∙ ap Some (omega arith)

pub less_none : (n k : ℕ) → k < n → less_by n k ≡ None
unfolding less_by
less_none zero k h = absurd (omega arith)
less_none (suc n) zero h = refl
less_none (suc n) (suc k) h = less_none n k (omega arith)
