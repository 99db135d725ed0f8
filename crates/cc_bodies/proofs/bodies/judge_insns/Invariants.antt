use Rattle.cc_meaning_program.specs.BodyFaults.{InsnFaulty}
use Rattle.cc_meaning_program.specs.Named.{method_text}
use Rattle.cc_bodies.proofs.Loops.{NoneBefore}
use Rattle.cc_bodies.proofs.bodies.judge_insns.Given as goal

abbrev pub invariant-loop-placed : goal.invariant-loop-placed
invariant-loop-placed l = NoneBefore (InsnFaulty l.ids (method_text l.ids l.fn.method)) l.insns l.placed-index
