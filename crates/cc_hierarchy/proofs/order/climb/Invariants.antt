use Rattle.std.proofs.Common.{not}
use Rattle.std.specs.Prelude.{count_by}
use Rattle.cc_hierarchy.proofs.Climbing.{Climbing}
use Rattle.cc_hierarchy.proofs.order.climb.Given as goal

abbrev pub invariant-loop-next : goal.invariant-loop-next
invariant-loop-next l = Climbing l.outlines l.fn.marks l.marks l.from l.next l.passed

abbrev pub decreases-loop-next : goal.decreases-loop-next
decreases-loop-next l = count_by not l.marks
