use Rattle.cc_meaning_typing.specs.Heights.{rank}
use Rattle.cc_types.proofs.Walks.{Lifted}
use Rattle.cc_types.proofs.hierarchy.lift.Given as goal

abbrev pub invariant-loop-next : goal.invariant-loop-next
invariant-loop-next l = Lifted l.program l.fn.low l.fn.ahead l.lifted l.left

abbrev pub decreases-loop-next : goal.decreases-loop-next
decreases-loop-next l = rank l.program l.left
