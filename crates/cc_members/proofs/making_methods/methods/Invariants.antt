use Rattle.cc_meaning.specs.declared.program.Method.{Method}
use Rattle.cc_meaning_program.specs.declared.plan.MethodPlan.{MethodPlan}
use Rattle.cc_members.specs.Made.{EachMade}
use Rattle.cc_members.specs.MadeMethods.{MethodMade}
use Rattle.cc_members.specs.MethodPremises.{BodiesLeft}
use Rattle.cc_members.proofs.making_methods.methods.Given as goal

abbrev pub invariant-loop-plan : goal.invariant-loop-plan
invariant-loop-plan l = record {
  made : EachMade (λ (plan : MethodPlan) (method : Method). MethodMade l.ids l.classes l.names l.outlines l.links plan.owner plan.source method) l.plans l.methods l.plan-index;
  left : BodiesLeft l.classes l.outlines l.plans l.bodies l.plan-index;
}
