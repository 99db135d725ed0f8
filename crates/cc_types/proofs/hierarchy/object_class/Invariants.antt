use Rattle.std.proofs.Common.{◌≡◌, ℕ}
use Rattle.cc_meaning_typing.specs.Hierarchy.{climb, object_class}
use Rattle.cc_meaning_typing.specs.Heights.{height}
use Rattle.cc_types.proofs.hierarchy.object_class.Given as goal

abbrev pub invariant-loop-above : goal.invariant-loop-above
invariant-loop-above l = (n : ℕ) × (climb l.program n l.class ≡ object_class l.program)

abbrev pub decreases-loop-above : goal.decreases-loop-above
decreases-loop-above l = height l.program l.class
