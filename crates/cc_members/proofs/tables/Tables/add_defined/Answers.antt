use Rattle.std.proofs.Common.{◌≡◌, ◌⊎◌, ◌↔◌, subst, ◌∙◌, arith}
use Rattle.std.specs.Prelude.{Contains}
use Rattle.cc_meaning_program.specs.declared.plan.MethodPlan.{MethodPlan}
use Rattle.cc_members.specs.Candidates.{IsBelow, file_plan}
use Rattle.cc_members.proofs.Adding.{one_added}
use Rattle.cc_members.proofs.tables.Tables.add_defined.Goals as goal

pub loop-place-preserved : goal.loop-place-preserved
unfolding file_plan
loop-place-preserved c =
    let more = one_added (file_plan c.args.owner) c.args.all.now c.loop-place.all c.loop-place.place c.loop-place.invariant in
    rw c.in_ok-push.ensures.ok more

pub returns : goal.returns
returns c =
    let end : c.loop-place.place ≡ c.in_ok-place-end.place-end = omega (arith, c.loop-place-test.false, c.loop-place.auto.place-end) in
    let count = end ∙ c.in_ok-place-end.ensures.same ∙ c.method_count.ensures in
    subst (λ n. (plan : MethodPlan) → Contains c.loop-place.all plan ↔ (Contains c.args.all.now plan ⊎ IsBelow (file_plan c.args.owner) n plan)) count c.loop-place.invariant
