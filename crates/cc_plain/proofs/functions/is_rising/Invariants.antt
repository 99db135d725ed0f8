use Rattle.std.proofs.Common.{◌≤◌}
use Rattle.cc_plain.proofs.FunctionLemmas.{RisesTo}
use Rattle.cc_plain.proofs.functions.is_rising.Given as goal

abbrev pub invariant-loop-at : goal.invariant-loop-at
invariant-loop-at l = (1 ≤ l.at) × RisesTo l.functions l.at
