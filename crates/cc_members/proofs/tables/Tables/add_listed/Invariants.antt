use Rattle.std.proofs.Common.{◌⊎◌, ◌↔◌}
use Rattle.std.specs.Prelude.{Contains}
use Rattle.cc_meaning_program.specs.declared.plan.MethodPlan.{MethodPlan}
use Rattle.cc_members.specs.Candidates.{IsBelow, built_in_plan}
use Rattle.cc_members.proofs.tables.Tables.add_listed.Given as goal

abbrev pub invariant-loop-place : goal.invariant-loop-place
invariant-loop-place l = (plan : MethodPlan) → Contains l.all plan ↔ (Contains l.fn.all plan ⊎ IsBelow (built_in_plan l.owner) l.place plan)
