use Rattle.cc_bodies.specs.Linked.{TryLinked}
use Rattle.cc_bodies.proofs.CodeLoops.{PairsBefore}
use Rattle.cc_bodies.proofs.code.link_tries.Given as goal

abbrev pub invariant-loop-item : goal.invariant-loop-item
invariant-loop-item l = PairsBefore (TryLinked l.links) l.stated l.item-index l.tries
