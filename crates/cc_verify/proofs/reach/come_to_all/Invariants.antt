use Rattle.std.specs.Prelude.{All, length}
use Rattle.cc_verify.specs.Reaching.{CanCome, Widens, AreReached}
use Rattle.cc_verify.proofs.Reaching.{SeenAfter}
use Rattle.cc_verify.proofs.reach.come_to_all.Given as goal

abbrev pub invariant-loop-address : goal.invariant-loop-address
invariant-loop-address l = record {
  widens : Widens l.fn.frontier l.frontier;
  reached : AreReached l.code l.frontier;
  comes : All (CanCome l.code) l.rest;
  seen : SeenAfter l.frontier.seen l.rest l.fn.addresses;
}

abbrev pub decreases-loop-address : goal.decreases-loop-address
decreases-loop-address l = length l.rest
