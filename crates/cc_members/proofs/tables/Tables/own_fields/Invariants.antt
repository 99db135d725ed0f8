use Rattle.std.proofs.Common.{◌↔◌}
use Rattle.std.specs.Prelude.{Contains}
use Rattle.cc_meaning_program.specs.declared.plan.FieldPlan.{FieldPlan}
use Rattle.cc_members.specs.Candidates.{IsOwnFieldBelow}
use Rattle.cc_members.proofs.tables.Tables.own_fields.Given as goal

abbrev pub invariant-loop-owner : goal.invariant-loop-owner
invariant-loop-owner l = (plan : FieldPlan) → Contains l.all plan ↔ IsOwnFieldBelow l.self.names.ids.now l.self.classes.now l.self.names.classes.now l.owner plan
