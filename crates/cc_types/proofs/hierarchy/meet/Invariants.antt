use Rattle.cc_meaning_typing.specs.Heights.{rank}
use Rattle.cc_types.proofs.Walks.{Meets}
use Rattle.cc_types.proofs.hierarchy.meet.Given as goal

abbrev pub invariant-loop-second : goal.invariant-loop-second
invariant-loop-second l = Meets l.program l.fn.a l.fn.b l.first l.second

abbrev pub decreases-loop-second : goal.decreases-loop-second
decreases-loop-second l = rank l.program l.first
