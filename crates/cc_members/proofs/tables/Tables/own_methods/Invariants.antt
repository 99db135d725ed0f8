use Rattle.std.proofs.Common.{◌↔◌}
use Rattle.std.specs.Prelude.{Contains}
use Rattle.cc_meaning_program.specs.declared.plan.MethodPlan.{MethodPlan}
use Rattle.cc_members.specs.Candidates.{IsOwnBelow}
use Rattle.cc_members.proofs.tables.Tables.own_methods.Given as goal

abbrev pub invariant-loop-owner : goal.invariant-loop-owner
invariant-loop-owner l = (plan : MethodPlan) → Contains l.all plan ↔ IsOwnBelow l.self.names.ids.now l.self.classes.now l.self.names.classes.now l.owner plan
