use Rattle.cc_verify.specs.Reaching.{room}
use Rattle.cc_verify.proofs.Reaching.{Follows}
use Rattle.cc_verify.proofs.reach.stays_within.Given as goal

abbrev pub invariant-loop-at : goal.invariant-loop-at
invariant-loop-at l = Follows l.code l.frontier

abbrev pub decreases-loop-at : goal.decreases-loop-at
decreases-loop-at l = room l.frontier
