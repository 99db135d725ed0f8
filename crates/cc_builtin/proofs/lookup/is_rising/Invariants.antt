use Rattle.std.proofs.Common.{◌≤◌}
use Rattle.cc_builtin.proofs.InOrder.{RisesTo}
use Rattle.cc_builtin.proofs.lookup.is_rising.Given as goal

abbrev pub invariant-loop-at : goal.invariant-loop-at
invariant-loop-at l = (1 ≤ l.at) × RisesTo l.classes l.at
