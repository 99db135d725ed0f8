use Rattle.cc_meaning_program.specs.BodyFaults.{MethodFault}
use Rattle.cc_bodies.proofs.Loops.{NoneBefore}
use Rattle.cc_bodies.proofs.bodies.judge_methods.Given as goal

abbrev pub invariant-loop-method : goal.invariant-loop-method
invariant-loop-method l = NoneBefore (MethodFault l.ids) l.methods l.method-index
