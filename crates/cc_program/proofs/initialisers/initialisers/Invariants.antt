use Rattle.std.proofs.Common.{take}
use Rattle.cc_program.specs.Initialisers.{AreInitialisers}
use Rattle.cc_program.proofs.initialisers.initialisers.Given as goal

abbrev pub invariant-loop-number : goal.invariant-loop-number
invariant-loop-number l = AreInitialisers (take l.number l.methods) l.count l.found
