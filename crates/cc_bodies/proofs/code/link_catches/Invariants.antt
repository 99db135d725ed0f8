use Rattle.cc_bodies.specs.Linked.{CatchLinked}
use Rattle.cc_bodies.proofs.CodeLoops.{PairsBefore}
use Rattle.cc_bodies.proofs.code.link_catches.Given as goal

abbrev pub invariant-loop-catch : goal.invariant-loop-catch
invariant-loop-catch l = PairsBefore (CatchLinked l.links) l.stated l.catch-index l.catches
