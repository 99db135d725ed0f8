use Rattle.std.proofs.Common.{ℕ, ◌<◌, get_or}
use Rattle.cc_hierarchy.specs.Graphs.{EdgeDescends}
use Rattle.cc_hierarchy.proofs.cycles.edges_descend.Given as goal

abbrev pub invariant-loop-to : goal.invariant-loop-to
invariant-loop-to l = (k : ℕ) → k < l.to-index → EdgeDescends l.levels l.suspects l.from (get_or l.targets k 0)
