use Rattle.std.proofs.Common.{◌≡◌, ◌+◌, ℕ, List, length, ap, sym, refl, arith, subst}
use Rattle.cc_meaning_program.specs.declared.plan.MethodPlan.{MethodPlan}
use Rattle.cc_program.specs.Mains.{IsMainPlan}
use Rattle.cc_program.proofs.MainPlans.{NoMainPlanBefore, one_more, one_there, is_plan}
use Rattle.cc_program.proofs.main_class.main_number.Goals as goal

pub loop-number-preserved : goal.loop-number-preserved
loop-number-preserved c =
    subst (λ (xs : List MethodPlan). NoMainPlanBefore c.args.ids.now c.args.class.now c.args.owner xs (c.loop-number.number + 1)) c.as_slice-planned.ensures
    (one_more c.args.ids.now c.args.class.now c.args.owner c.as_slice-planned.result.now c.loop-number.number _ c.loop-number-test.true
    (subst (λ (xs : List MethodPlan). NoMainPlanBefore c.args.ids.now c.args.class.now c.args.owner xs c.loop-number.number) (sym c.as_slice-planned.ensures) c.loop-number.invariant)
    c.if-is_main_plan.ensures.1)

pub returns-then-is_main_plan : goal.returns-then-is_main_plan
returns-then-is_main_plan c =
    subst (λ (xs : List MethodPlan). IsMainPlan c.args.ids.now c.args.class.now c.args.owner xs c.loop-number.number) c.as_slice-planned.ensures
    (is_plan c.args.ids.now c.args.class.now c.args.owner c.as_slice-planned.result.now c.loop-number.number _ c.loop-number-test.true (c.if-is_main_plan.ensures.0 refl))

pub unreachable-requires : goal.unreachable-requires
unreachable-requires c =
    let long = ap length c.as_slice-planned.ensures in
    let past = c.loop-number-test.false in
    one_there c.args.ids.now c.args.class.now c.args.owner c.args.plans.now c.loop-number.number (omega (arith, long, past)) c.loop-number.invariant c.requires.0 c.requires.1
