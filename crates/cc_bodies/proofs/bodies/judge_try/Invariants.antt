use Rattle.cc_meaning_program.specs.BodyFaults.{CatchFaulty}
use Rattle.cc_bodies.proofs.Loops.{NoneBefore}
use Rattle.cc_bodies.proofs.bodies.judge_try.Given as goal

abbrev pub invariant-loop-catch : goal.invariant-loop-catch
invariant-loop-catch l = NoneBefore (CatchFaulty l.ids) l.catches l.catch-index
