use Rattle.std.proofs.Common.{ℕ, List, length}
use Rattle.cc_tables.specs.Params.{AreParams}
use Rattle.cc_tables.proofs.prototype.result_of.Given as goal

-- what is left are parameters with the same behind them
abbrev pub invariant-loop-behind : goal.invariant-loop-behind
invariant-loop-behind l = (params : List (List ℕ)) (after : List ℕ) → AreParams params after l.units → (left : List (List ℕ)) × AreParams left after l.rest

abbrev pub decreases-loop-behind : goal.decreases-loop-behind
decreases-loop-behind l = length l.rest
