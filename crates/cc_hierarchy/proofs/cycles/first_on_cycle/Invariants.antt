use Rattle.std.proofs.Common.{ℕ, ◌<◌}
use Rattle.cc_hierarchy.specs.Graphs.{Reaches}
use Rattle.cc_hierarchy.proofs.cycles.first_on_cycle.Given as goal

abbrev pub invariant-loop-node : goal.invariant-loop-node
invariant-loop-node l = (earlier : ℕ) → earlier < l.node → ¬ Reaches l.graph earlier earlier
