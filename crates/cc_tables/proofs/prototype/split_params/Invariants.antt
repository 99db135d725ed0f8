use Rattle.std.proofs.Common.{◌≡◌, ℕ, List, ◌++◌, length}
use Rattle.cc_tables.specs.Params.{AreParams}
use Rattle.cc_tables.proofs.prototype.split_params.Given as goal

-- the parameters are those so far and those that are left
abbrev pub invariant-loop-param : goal.invariant-loop-param
invariant-loop-param l = (params : List (List ℕ)) (after : List ℕ) → AreParams params after l.units →
    (left : List (List ℕ)) × (params ≡ l.split ++ left) × AreParams left after l.rest

abbrev pub decreases-loop-param : goal.decreases-loop-param
decreases-loop-param l = length l.rest
