use Rattle.std.proofs.Common.{◌+◌, length, not}
use Rattle.std.specs.Prelude.{count_by}
use Rattle.cc_hierarchy.proofs.Searching.{Searched}
use Rattle.cc_hierarchy.proofs.search.reaches_itself.Given as goal

abbrev pub invariant-loop-node : goal.invariant-loop-node
invariant-loop-node l = Searched l.graph l.start l.marks l.awaited

abbrev pub decreases-loop-node : goal.decreases-loop-node
decreases-loop-node l = count_by not l.marks + length l.awaited
