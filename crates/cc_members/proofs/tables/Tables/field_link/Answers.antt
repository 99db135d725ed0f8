use Rattle.std.proofs.Common.{map, sym}
use Rattle.cc_members.specs.Named.{named_text}
use Rattle.cc_members.proofs.FieldLinking.{not_stated, linked_to, unnamed}
use Rattle.cc_members.proofs.tables.Tables.field_link.Goals as goal

pub returns-in_err-number : goal.returns-in_err-number
returns-in_err-number c =
    let ids = c.args.self.now.names.ids.now in
    let names = c.args.self.now.names.classes.now in
    let listed = c.args.self.now.names.listings.now.members in
    let fields = map (named_text ids names listed) c.args.named.now in
    let never = rw c.owner_class.ensures at c.in_err-number.ensures in
    not_stated ids c.args.self.now.classes.now names c.args.owners.now c.requires.owners fields c.args.row c.from_residual-in_err-number.result c.from_residual-in_err-number.ensures
    (unnamed ids c.args.self.now.classes.now names c.args.owners.now c.requires.owners c.one_field_owner.ensures fields listed c.args.row c.in_ok-owner.owner.now (sym c.in_ok-owner.ensures.value) never)

pub returns : goal.returns
returns c =
    let ids = c.args.self.now.names.ids.now in
    let names = c.args.self.now.names.classes.now in
    let listed = c.args.self.now.names.listings.now.members in
    let fields = map (named_text ids names listed) c.args.named.now in
    let number = rw c.owner_class.ensures at c.in_ok-number.ensures in
    linked_to ids c.args.self.now.classes.now names c.args.owners.now c.requires.owners fields listed c.args.row c.in_ok-owner.owner.now _ (sym c.in_ok-owner.ensures.value) number
