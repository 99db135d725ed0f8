use Rattle.std.proofs.Common.{length, subst}
use Rattle.cc_members.specs.Linked.{LinkFields}
use Rattle.cc_members.proofs.FieldLinking.{all_linked}
use Rattle.cc_members.proofs.field_rows.field_links.Goals as goal

pub returns : goal.returns
returns c =
    let ids = c.args.ids.now in
    let classes = c.args.classes.now in
    let names = c.args.names.now in
    let links = c.in_ok-linked_fields.field-0 in
    let named = rw c.as_slice.ensures at c.in_ok-named.ensures in
    let linking = subst (λ fields. LinkFields ids classes fields (length ids.fields) links) named c.in_ok-linked_fields.ensures in
    all_linked ids classes names c.args.owners.now c.requires.owners c.requires.uses.0 c.args.uses.now c.args.plans.now links c.requires.uses.1 c.requires.rows c.requires.plans linking
