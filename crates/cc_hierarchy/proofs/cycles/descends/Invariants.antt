use Rattle.std.proofs.Common.{ℕ, ◌<◌}
use Rattle.cc_hierarchy.specs.Graphs.{HasEdge, EdgeDescends}
use Rattle.cc_hierarchy.proofs.cycles.descends.Given as goal

abbrev pub invariant-loop-from : goal.invariant-loop-from
invariant-loop-from l = (from to : ℕ) → from < l.from → HasEdge l.graph from to → EdgeDescends l.levels l.suspects from to
