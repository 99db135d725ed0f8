use Rattle.std.proofs.Common.{◌≡◌, ◌↔◌, length, subst, arith}
use Rattle.std.specs.Prelude.{Contains}
use Rattle.cc_meaning_program.specs.declared.plan.FieldPlan.{FieldPlan}
use Rattle.cc_members.specs.Candidates.{IsOwnField, IsOwnFieldBelow}
use Rattle.cc_members.proofs.Adding.{family_added}
use Rattle.cc_members.proofs.tables.Tables.own_fields.Goals as goal

pub loop-owner-preserved : goal.loop-owner-preserved
loop-owner-preserved c =
    family_added (IsOwnField c.args.self.now.names.ids.now c.args.self.now.classes.now c.args.self.now.names.classes.now) c.loop-owner.all c.add_fields.new.all c.loop-owner.owner c.loop-owner.invariant c.in_ok-add_fields.ensures

pub returns : goal.returns
returns c =
    let names = c.args.self.now.names.classes.now in
    let end : c.loop-owner.owner ≡ length names = omega (arith, c.loop-owner-test.false, c.loop-owner.auto.owner-end, c.len-owner-end.ensures.value) in
    subst (λ n. (plan : FieldPlan) → Contains c.loop-owner.all plan ↔ IsOwnFieldBelow c.args.self.now.names.ids.now c.args.self.now.classes.now names n plan) end c.loop-owner.invariant
