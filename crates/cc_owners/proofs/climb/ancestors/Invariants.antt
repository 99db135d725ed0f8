use Rattle.std.proofs.Common.{◌-◌, length}
use Rattle.cc_owners.proofs.Climbing.{Climbs}
use Rattle.cc_owners.proofs.climb.ancestors.Given as goal

abbrev pub invariant-loop-next : goal.invariant-loop-next
invariant-loop-next l = Climbs l.linked l.class l.chain l.next

abbrev pub decreases-loop-next : goal.decreases-loop-next
decreases-loop-next l = length l.linked.names.now - length l.chain
