use Rattle.std.proofs.Common.{◌≡◌, get_or, length, Some, sym, ap, subst, ◌∙◌, arith}
use Rattle.std.specs.Prelude.{slice_get}
use Rattle.std.proofs.lemmas.Option.{slice_get-get_or}
use Rattle.cc_meaning.specs.declared.program.Field.{Field}
use Rattle.cc_meaning_program.specs.declared.plan.FieldPlan.{FieldPlan}
use Rattle.cc_meaning_program.specs.declared.plan.FieldSource.TheVariants as from
use Rattle.cc_members.specs.Made.{EachMade}
use Rattle.cc_members.specs.MadeFields.{FieldMade}
use Rattle.cc_members.proofs.FieldsMade.{can_be_made, have_names, are_planned}
use Rattle.cc_members.proofs.MadeOneByOne.{one_more_made}
use Rattle.cc_members.proofs.making_fields.fields.Goals as goal

abbrev none : FieldPlan
none = record { owner = 0; source = from.File 0 }

pub field-requires-clause-can : goal.field-requires-clause-can
field-requires-clause-can c =
    let items = c.as_slice-plan-items.result.now in
    let place = c.loop-plan.plan-index in
    let there : slice_get c.args.plans.now place ≡ Some (get_or items place none) = ap (λ xs. slice_get xs place) (sym c.as_slice-plan-items.ensures) ∙ slice_get-get_or items place none c.loop-plan-test.true in
    can_be_made c.listed_types_spelled.ensures c.stand_to_end.ensures c.args.ids.now c.args.classes.now c.args.names.now c.args.outlines.now c.args.links.now.types c.requires.tables c.requires.members c.requires.sound c.requires.names
    c.requires.outlines c.requires.types c.args.plans.now c.requires.plans place (get_or items place none) there

pub loop-plan-preserved : goal.loop-plan-preserved
loop-plan-preserved c =
    let items = c.as_slice-plan-items.result.now in
    let place = c.loop-plan.plan-index in
    let there : slice_get c.args.plans.now place ≡ Some (get_or items place none) = ap (λ xs. slice_get xs place) (sym c.as_slice-plan-items.ensures) ∙ slice_get-get_or items place none c.loop-plan-test.true in
    rw c.in_ok-push.ensures.ok
    (one_more_made (λ (plan : FieldPlan) (field : Field). FieldMade c.args.ids.now c.args.classes.now c.args.names.now c.args.outlines.now c.args.links.now.types plan.owner plan.source field) c.args.plans.now c.loop-plan.fields place
    (get_or items place none) c.in_ok-field.field-0 c.loop-plan.invariant there c.in_ok-field.ensures)

pub returns-clause-named : goal.returns-clause-named
returns-clause-named c =
    let all : c.loop-plan.plan-index ≡ length c.args.plans.now = omega (arith, ap length c.as_slice-plan-items.ensures, c.loop-plan-test.false, c.loop-plan.auto.plan-index-end) in
    let made = subst (λ count. EachMade (λ (plan : FieldPlan) (field : Field). FieldMade c.args.ids.now c.args.classes.now c.args.names.now c.args.outlines.now c.args.links.now.types plan.owner plan.source field) c.args.plans.now c.loop-plan.fields count) all
    c.loop-plan.invariant in
    have_names c.listed_types_spelled.ensures c.stand_to_end.ensures c.args.ids.now c.args.classes.now c.args.names.now c.args.outlines.now c.args.links.now.types c.requires.tables c.requires.members c.requires.sound c.requires.names
    c.requires.outlines c.requires.types c.args.plans.now c.loop-plan.fields c.requires.plans made

pub returns-clause-each : goal.returns-clause-each
returns-clause-each c =
    let all : c.loop-plan.plan-index ≡ length c.args.plans.now = omega (arith, ap length c.as_slice-plan-items.ensures, c.loop-plan-test.false, c.loop-plan.auto.plan-index-end) in
    let made = subst (λ count. EachMade (λ (plan : FieldPlan) (field : Field). FieldMade c.args.ids.now c.args.classes.now c.args.names.now c.args.outlines.now c.args.links.now.types plan.owner plan.source field) c.args.plans.now c.loop-plan.fields count) all
    c.loop-plan.invariant in
    are_planned c.listed_types_spelled.ensures c.stand_to_end.ensures c.args.ids.now c.args.classes.now c.args.names.now c.args.outlines.now c.args.links.now.types c.requires.tables c.requires.members c.requires.sound c.requires.names
    c.requires.outlines c.requires.types c.args.plans.now c.loop-plan.fields c.requires.plans made
