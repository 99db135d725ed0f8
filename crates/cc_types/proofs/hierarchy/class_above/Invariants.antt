use Rattle.cc_meaning_typing.specs.Heights.{height}
use Rattle.cc_types.proofs.Walks.{Seeks}
use Rattle.cc_types.proofs.hierarchy.class_above.Given as goal

abbrev pub invariant-loop-next : goal.invariant-loop-next
invariant-loop-next l = Seeks l.program l.class l.above

abbrev pub decreases-loop-next : goal.decreases-loop-next
decreases-loop-next l = height l.program l.above
