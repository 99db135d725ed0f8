use Rattle.std.proofs.Common.{◌≡◌, length, map, subst, arith}
use Rattle.cc_members.specs.Linked.{LinkFields}
use Rattle.cc_members.specs.Named.{named_text}
use Rattle.cc_members.proofs.FieldLinking.{none_linked, one_linked}
use Rattle.cc_members.proofs.tables.Tables.linked_fields.Goals as goal

pub loop-row-init : goal.loop-row-init
loop-row-init c = rw c.new-links.ensures (none_linked c.args.self.now.names.ids.now c.args.self.now.classes.now c.args.self.now.names.classes.now c.args.owners.now c.requires.owners _)

pub loop-row-preserved : goal.loop-row-preserved
loop-row-preserved c =
    let methods = map (named_text c.args.self.now.names.ids.now c.args.self.now.names.classes.now c.args.self.now.names.listings.now.members) c.args.named.now in
    rw c.in_ok-push.ensures.ok (one_linked c.args.self.now.names.ids.now c.args.self.now.classes.now c.args.self.now.names.classes.now c.args.owners.now c.requires.owners methods c.loop-row.row c.loop-row.links c.field_link.result c.loop-row.invariant c.field_link.ensures)

pub returns : goal.returns
returns c =
    let methods = map (named_text c.args.self.now.names.ids.now c.args.self.now.names.classes.now c.args.self.now.names.listings.now.members) c.args.named.now in
    let end : c.loop-row.row ≡ length c.args.self.now.names.ids.now.fields = omega (arith, c.loop-row-test.false, c.loop-row.auto.row-end, c.in_ok-row-end.ensures.same, c.len-2.ensures.value) in
    subst (λ count. LinkFields c.args.self.now.names.ids.now c.args.self.now.classes.now methods count c.loop-row.links) end c.loop-row.invariant
