use Rattle.std.proofs.Common.{◌≡◌, ◌⊎◌, ℕ, ◌+◌, length, take, not}
use Rattle.std.specs.Prelude.{◌↔◌, Contains, count_by}
use Rattle.cc_hierarchy.specs.Graphs.{IsMarked}
use Rattle.cc_hierarchy.proofs.search.mark_all.Given as goal

abbrev pub invariant-loop-node : goal.invariant-loop-node
invariant-loop-node l = record {
  wide : length l.marks ≡ length l.initial.marks;
  marked : (other : ℕ) → IsMarked l.marks other ↔ (IsMarked l.initial.marks other ⊎ Contains (take l.node-index l.nodes) other);
  awaited : (other : ℕ) → IsMarked l.marks other → IsMarked l.initial.marks other ⊎ Contains l.awaited other;
  kept : (other : ℕ) → Contains l.initial.awaited other → Contains l.awaited other;
  all : (other : ℕ) → Contains l.awaited other → Contains l.initial.awaited other ⊎ Contains (take l.node-index l.nodes) other;
  spent : count_by not l.marks + length l.awaited ≡ count_by not l.initial.marks + length l.initial.awaited;
}
