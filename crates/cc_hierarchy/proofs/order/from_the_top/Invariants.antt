use Rattle.std.proofs.Common.{ℕ, ◌<◌}
use Rattle.std.specs.Prelude.{Contains}
use Rattle.cc_hierarchy.specs.FromTheTop.{AreTaken}
use Rattle.cc_hierarchy.proofs.order.from_the_top.Given as goal

abbrev pub invariant-loop-number : goal.invariant-loop-number
invariant-loop-number l = record { taken : AreTaken l.outlines l.marks l.order; each : (class : ℕ) → class < l.number → Contains l.order class }
