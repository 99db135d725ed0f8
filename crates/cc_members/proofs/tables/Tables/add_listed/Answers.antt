use Rattle.std.proofs.Common.{◌≡◌, ◌⊎◌, ◌↔◌, length, subst, ap, ◌∙◌, arith}
use Rattle.std.specs.Prelude.{Contains}
use Rattle.std.proofs.lemmas.List.{length-map}
use Rattle.cc_built_in.specs.BuiltInMethods.{built_in_member}
use Rattle.cc_meaning_program.specs.OwnMembers.{built_in_methods_of}
use Rattle.cc_meaning_program.specs.declared.plan.MethodPlan.{MethodPlan}
use Rattle.cc_meaning_program.specs.Plans.{name_at}
use Rattle.cc_members.specs.Candidates.{IsBelow, built_in_plan}
use Rattle.cc_members.proofs.Adding.{one_added}
use Rattle.cc_members.proofs.tables.Tables.add_listed.Goals as goal

pub loop-place-preserved : goal.loop-place-preserved
unfolding built_in_plan
loop-place-preserved c =
    let more = one_added (built_in_plan c.args.owner) c.args.all.now c.loop-place.all c.loop-place.place c.loop-place.invariant in
    rw c.in_ok-push.ensures.ok more

pub returns : goal.returns
returns c =
    let end : c.loop-place.place ≡ c.in_ok-place-end.place-end = omega (arith, c.loop-place-test.false, c.loop-place.auto.place-end) in
    let listed = built_in_methods_of c.args.self.now.names.ids.now (name_at c.args.self.now.names.classes.now c.args.owner) in
    let count = end ∙ c.in_ok-place-end.ensures.same ∙ c.count.ensures ∙ ap length c.table-table.ensures ∙ length-map listed built_in_member in
    subst (λ n. (plan : MethodPlan) → Contains c.loop-place.all plan ↔ (Contains c.args.all.now plan ⊎ IsBelow (built_in_plan c.args.owner) n plan)) count c.loop-place.invariant
