use Rattle.cc_meaning_program.specs.BodyFaults.{TryFaulty}
use Rattle.cc_bodies.proofs.Loops.{NoneBefore}
use Rattle.cc_bodies.proofs.bodies.judge_tries.Given as goal

abbrev pub invariant-loop-stated : goal.invariant-loop-stated
invariant-loop-stated l = NoneBefore (TryFaulty l.ids) l.tries l.stated-index
