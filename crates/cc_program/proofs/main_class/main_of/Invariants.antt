use Rattle.cc_program.proofs.Mains.{NoneNamedBefore}
use Rattle.cc_program.proofs.main_class.main_of.Given as goal

abbrev pub invariant-loop-place : goal.invariant-loop-place
invariant-loop-place l = NoneNamedBefore l.ids l.class.methods l.place
