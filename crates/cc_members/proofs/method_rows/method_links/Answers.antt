use Rattle.std.proofs.Common.{length, subst}
use Rattle.cc_members.specs.Linked.{LinkMethods}
use Rattle.cc_members.proofs.MethodLinking.{all_linked}
use Rattle.cc_members.proofs.method_rows.method_links.Goals as goal

pub returns : goal.returns
returns c =
    let ids = c.args.ids.now in
    let classes = c.args.classes.now in
    let names = c.args.names.now in
    let links = c.in_ok-linked_methods.field-0 in
    let named = rw c.as_slice.ensures at c.in_ok-named.ensures in
    let linking = subst (λ methods. LinkMethods ids classes names methods (length ids.methods) links) named c.in_ok-linked_methods.ensures in
    all_linked ids classes names c.args.owners.now c.requires.tables c.requires.names c.requires.owners c.args.uses.now c.requires.uses.0 c.args.plans.now links c.requires.uses.1 c.requires.rows c.requires.plans linking
