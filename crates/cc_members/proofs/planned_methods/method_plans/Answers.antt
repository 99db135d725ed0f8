use Rattle.std.proofs.Common.{◌++◌, ap, ◌∙◌}
use Rattle.cc_members.specs.Candidates.{outside_plans}
use Rattle.cc_members.proofs.MethodPlanning.{all_there, are_plans}
use Rattle.cc_members.proofs.planned_methods.method_plans.Goals as goal

pub sorted_methods-requires-clause-there : goal.sorted_methods-requires-clause-there
sorted_methods-requires-clause-there c =
    let own = c.in_ok-all.all in
    let all = c.in_ok-add_outside.ensures ∙ ap (λ uses. own ++ outside_plans c.args.owners.now uses) c.as_slice.ensures in
    rw c.as_slice-2.ensures (all_there c.args.ids.now c.args.classes.now c.args.names.now c.args.owners.now c.args.uses.now c.requires.uses.0 c.requires.tables c.requires.sound c.requires.names c.requires.owners c.requires.uses.1
    c.one_method_owner.ensures c.one_reading.ensures own c.add_outside.new.all c.in_ok-all.ensures all)

pub returns : goal.returns
returns c =
    let own = c.in_ok-all.all in
    let all = c.in_ok-add_outside.ensures ∙ ap (λ uses. own ++ outside_plans c.args.owners.now uses) c.as_slice.ensures in
    are_plans c.args.ids.now c.args.classes.now c.args.names.now c.args.owners.now c.args.uses.now c.requires.uses.0 c.requires.tables c.requires.sound c.requires.names c.requires.owners c.requires.uses.1
    c.one_method_owner.ensures c.one_reading.ensures own c.add_outside.new.all c.in_ok-all.ensures all c.in_ok-sorted_methods.field-0
    (rw c.as_slice-2.ensures at c.in_ok-sorted_methods.ensures.order) (rw c.as_slice-2.ensures at c.in_ok-sorted_methods.ensures.first)
