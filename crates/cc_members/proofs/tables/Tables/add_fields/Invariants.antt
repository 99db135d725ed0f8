use Rattle.std.proofs.Common.{◌⊎◌, ◌↔◌}
use Rattle.std.specs.Prelude.{Contains}
use Rattle.cc_meaning_program.specs.declared.plan.FieldPlan.{FieldPlan}
use Rattle.cc_members.specs.Candidates.{IsBelow, file_field}
use Rattle.cc_members.proofs.tables.Tables.add_fields.Given as goal

abbrev pub invariant-loop-place : goal.invariant-loop-place
invariant-loop-place l = (plan : FieldPlan) → Contains l.all plan ↔ (Contains l.fn.all plan ⊎ IsBelow (file_field l.owner) l.place plan)
