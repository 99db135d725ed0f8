use Rattle.std.proofs.Common.{◌≡◌, get_or, length, Some, sym, ap, subst, ◌∙◌, arith}
use Rattle.std.specs.Prelude.{slice_get}
use Rattle.std.proofs.lemmas.Option.{slice_get-get_or}
use Rattle.cc_meaning.specs.declared.program.Method.{Method}
use Rattle.cc_meaning_program.specs.declared.plan.MethodPlan.{MethodPlan}
use Rattle.cc_meaning_program.specs.declared.plan.MethodSource.TheVariants as from
use Rattle.cc_members.specs.Made.{EachMade}
use Rattle.cc_members.specs.MadeMethods.{MethodMade}
use Rattle.cc_members.proofs.BodiesTaken.{all_left, rest_left}
use Rattle.cc_members.proofs.MadeOneByOne.{none_made, one_more_made}
use Rattle.cc_members.proofs.MethodsMade.{owner_known, can_be_made, have_names, are_planned}
use Rattle.cc_members.proofs.making_methods.methods.Goals as goal

abbrev none : MethodPlan
none = record { owner = 0; source = from.File 0 }

pub loop-plan-init : goal.loop-plan-init
loop-plan-init c = record {
  made = rw c.new-methods.ensures (none_made (λ (plan : MethodPlan) (method : Method). MethodMade c.args.ids.now c.args.classes.now c.args.names.now c.args.outlines.now c.args.links.now plan.owner plan.source method) c.args.plans.now);
  left = all_left c.args.ids.now c.args.classes.now c.args.names.now c.args.outlines.now c.requires.outlines c.args.plans.now c.requires.plans c.args.bodies c.requires.bodies;
}

pub method-requires-clause-known : goal.method-requires-clause-known
method-requires-clause-known c =
    let items = c.as_slice-plan-items.result.now in
    let place = c.loop-plan.plan-index in
    let there : slice_get c.args.plans.now place ≡ Some (get_or items place none) = ap (λ xs. slice_get xs place) (sym c.as_slice-plan-items.ensures) ∙ slice_get-get_or items place none c.loop-plan-test.true in
    owner_known c.listed_types_spelled.ensures c.stand_to_end.ensures c.sound_code_is_linkable.ensures c.args.ids.now c.args.classes.now c.args.names.now c.args.outlines.now c.args.links.now c.requires.tables c.requires.members c.requires.sound
    c.requires.names c.requires.outlines c.requires.links c.args.plans.now c.requires.plans place (get_or items place none) there

pub method-requires-clause-can : goal.method-requires-clause-can
method-requires-clause-can c =
    let items = c.as_slice-plan-items.result.now in
    let place = c.loop-plan.plan-index in
    let there : slice_get c.args.plans.now place ≡ Some (get_or items place none) = ap (λ xs. slice_get xs place) (sym c.as_slice-plan-items.ensures) ∙ slice_get-get_or items place none c.loop-plan-test.true in
    can_be_made c.listed_types_spelled.ensures c.stand_to_end.ensures c.sound_code_is_linkable.ensures c.args.ids.now c.args.classes.now c.args.names.now c.args.outlines.now c.args.links.now c.requires.tables c.requires.members c.requires.sound
    c.requires.names c.requires.outlines c.requires.links c.args.plans.now c.requires.plans c.loop-plan.bodies place (get_or items place none) there c.loop-plan.invariant.left

pub loop-plan-preserved : goal.loop-plan-preserved
loop-plan-preserved c =
    let items = c.as_slice-plan-items.result.now in
    let place = c.loop-plan.plan-index in
    let there : slice_get c.args.plans.now place ≡ Some (get_or items place none) = ap (λ xs. slice_get xs place) (sym c.as_slice-plan-items.ensures) ∙ slice_get-get_or items place none c.loop-plan-test.true in
    record {
      made = rw c.in_ok-push.ensures.ok
          (one_more_made (λ (plan : MethodPlan) (method : Method). MethodMade c.args.ids.now c.args.classes.now c.args.names.now c.args.outlines.now c.args.links.now plan.owner plan.source method) c.args.plans.now c.loop-plan.methods place
          (get_or items place none) c.in_ok-method.field-0 c.loop-plan.invariant.made there c.in_ok-method.ensures.made);
      left = rest_left c.args.ids.now c.args.classes.now c.args.names.now c.args.outlines.now c.requires.outlines c.args.plans.now c.requires.plans place (get_or items place none) c.loop-plan.bodies c.method.new.bodies there
          c.in_ok-method.ensures.left c.loop-plan.invariant.left;
    }

pub returns-clause-named : goal.returns-clause-named
returns-clause-named c =
    let all : c.loop-plan.plan-index ≡ length c.args.plans.now = omega (arith, ap length c.as_slice-plan-items.ensures, c.loop-plan-test.false, c.loop-plan.auto.plan-index-end) in
    let made = subst (λ count. EachMade (λ (plan : MethodPlan) (method : Method). MethodMade c.args.ids.now c.args.classes.now c.args.names.now c.args.outlines.now c.args.links.now plan.owner plan.source method) c.args.plans.now c.loop-plan.methods count)
    all c.loop-plan.invariant.made in
    have_names c.listed_types_spelled.ensures c.stand_to_end.ensures c.sound_code_is_linkable.ensures c.args.ids.now c.args.classes.now c.args.names.now c.args.outlines.now c.args.links.now c.requires.tables c.requires.members c.requires.sound
    c.requires.names c.requires.outlines c.requires.links c.args.plans.now c.requires.plans c.loop-plan.methods made

pub returns-clause-each : goal.returns-clause-each
returns-clause-each c =
    let all : c.loop-plan.plan-index ≡ length c.args.plans.now = omega (arith, ap length c.as_slice-plan-items.ensures, c.loop-plan-test.false, c.loop-plan.auto.plan-index-end) in
    let made = subst (λ count. EachMade (λ (plan : MethodPlan) (method : Method). MethodMade c.args.ids.now c.args.classes.now c.args.names.now c.args.outlines.now c.args.links.now plan.owner plan.source method) c.args.plans.now c.loop-plan.methods count)
    all c.loop-plan.invariant.made in
    are_planned c.listed_types_spelled.ensures c.stand_to_end.ensures c.sound_code_is_linkable.ensures c.args.ids.now c.args.classes.now c.args.names.now c.args.outlines.now c.args.links.now c.requires.tables c.requires.members c.requires.sound
    c.requires.names c.requires.outlines c.requires.links c.args.plans.now c.requires.plans c.loop-plan.methods made
