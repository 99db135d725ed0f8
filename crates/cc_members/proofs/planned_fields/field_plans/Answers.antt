use Rattle.std.proofs.Common.{◌++◌, [], ◌∷◌, ap, ◌∙◌}
use Rattle.cc_members.specs.Candidates.{beyond_fields}
use Rattle.cc_members.proofs.FieldPlanning.{all_there, are_plans}
use Rattle.cc_members.proofs.planned_fields.field_plans.Goals as goal

pub sorted_fields-requires-clause-there : goal.sorted_fields-requires-clause-there
sorted_fields-requires-clause-there c =
    let own = c.in_ok-all.all in
    let out = c.out_field.result in
    let all = c.in_ok-add_beyond.ensures ∙ (ap (λ known. known ++ beyond_fields c.args.owners.now c.as_slice.result.now) c.in_ok-push.ensures.ok ∙ ap (λ uses. (own ++ out ∷ []) ++ beyond_fields c.args.owners.now uses) c.as_slice.ensures) in
    rw c.as_slice-2.ensures (all_there c.args.ids.now c.args.classes.now c.args.names.now c.args.owners.now c.requires.uses.0 c.args.uses.now c.requires.tables c.requires.sound c.requires.names c.requires.owners c.requires.uses.1
    c.one_field_owner.ensures c.one_reading.ensures own c.add_beyond.new.all out c.in_ok-all.ensures c.out_field.ensures all)

pub returns : goal.returns
returns c =
    let own = c.in_ok-all.all in
    let out = c.out_field.result in
    let all = c.in_ok-add_beyond.ensures ∙ (ap (λ known. known ++ beyond_fields c.args.owners.now c.as_slice.result.now) c.in_ok-push.ensures.ok ∙ ap (λ uses. (own ++ out ∷ []) ++ beyond_fields c.args.owners.now uses) c.as_slice.ensures) in
    are_plans c.args.ids.now c.args.classes.now c.args.names.now c.args.owners.now c.requires.uses.0 c.args.uses.now c.requires.tables c.requires.sound c.requires.names c.requires.owners c.requires.uses.1
    c.one_field_owner.ensures c.one_reading.ensures own c.add_beyond.new.all out c.in_ok-all.ensures c.out_field.ensures all c.in_ok-sorted_fields.field-0
    (rw c.as_slice-2.ensures at c.in_ok-sorted_fields.ensures.order) (rw c.as_slice-2.ensures at c.in_ok-sorted_fields.ensures.first)
