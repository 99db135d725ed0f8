use Rattle.cc_program.proofs.MainPlans.{NoMainPlanBefore}
use Rattle.cc_program.proofs.main_class.main_number.Given as goal

abbrev pub invariant-loop-number : goal.invariant-loop-number
invariant-loop-number l = NoMainPlanBefore l.ids l.class l.owner l.plans l.number
