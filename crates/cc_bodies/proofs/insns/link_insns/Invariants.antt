use Rattle.cc_bodies.specs.Linked.{PlacedLinked}
use Rattle.cc_bodies.proofs.CodeLoops.{ChangedBefore}
use Rattle.cc_bodies.proofs.insns.link_insns.Given as goal

abbrev pub invariant-loop-placed : goal.invariant-loop-placed
invariant-loop-placed l = ChangedBefore (PlacedLinked l.links) l.initial.insns l.insns l.placed-index
