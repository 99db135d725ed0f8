use Rattle.std.proofs.Common.{Some, None, slice_get, sym, ◌∙◌}
use Rattle.std.proofs.lemmas.List.{append-nil}
use Rattle.cc_meaning_program.specs.declared.uses.MethodUse.{MethodUse}
use Rattle.cc_members.specs.Candidates.{outside_plan, outside_plans}
use Rattle.cc_members.proofs.Adding.{made_more}
use Rattle.cc_members.proofs.planned_methods.add_outside.Goals.{in-Some+in_ok-push, in_default}
use Rattle.cc_members.proofs.planned_methods.add_outside.Goals as goal

pub loop-used-init : goal.loop-used-init
unfolding outside_plans
loop-used-init c = sym (append-nil c.args.all.now)

pub loop-used-preserved : goal.loop-used-preserved
unfolding outside_plans
loop-used-preserved c =
    let owners = c.args.owners.now in
    let f = λ (used : MethodUse). outside_plan (slice_get owners used.row) used in
    let all = c.loop-used.all in
    elim c.match-outside_method.branch [
      | in-Some+in_ok-push w ↦
          w.all-is ∙ (w.in_ok-push.ensures.ok ∙ made_more f c.args.all.now all c.args.uses.now c.loop-used.used-index _ (Some w.in-Some.plan) c.loop-used.invariant c.loop-used-test.true (sym w.in-Some.is ∙ c.outside_method.ensures))
      | in_default w ↦
          w.all-is ∙ (sym (append-nil all) ∙ made_more f c.args.all.now all c.args.uses.now c.loop-used.used-index _ None c.loop-used.invariant c.loop-used-test.true (sym w.in_default.is ∙ c.outside_method.ensures))
    ]
