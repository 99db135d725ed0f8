use Rattle.cc_meaning.specs.declared.program.Field.{Field}
use Rattle.cc_meaning_program.specs.declared.plan.FieldPlan.{FieldPlan}
use Rattle.cc_members.specs.Made.{EachMade}
use Rattle.cc_members.specs.MadeFields.{FieldMade}
use Rattle.cc_members.proofs.making_fields.fields.Given as goal

abbrev pub invariant-loop-plan : goal.invariant-loop-plan
invariant-loop-plan l = EachMade (λ (plan : FieldPlan) (field : Field). FieldMade l.ids l.classes l.names l.outlines l.links.types plan.owner plan.source field) l.plans l.fields l.plan-index
