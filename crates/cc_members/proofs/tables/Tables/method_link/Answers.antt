use Rattle.std.proofs.Common.{Some, map, sym, subst, ap, ◌∙◌}
use Rattle.std.specs.Prelude.{Contains}
use Rattle.cc_members.specs.Named.{named_text}
use Rattle.cc_members.proofs.MethodLinking.{not_stated, linked_to, unnamed, class_there}
use Rattle.cc_members.proofs.tables.Tables.method_link.Goals as goal

pub returns-in_err-class : goal.returns-in_err-class
returns-in_err-class c =
    let ids = c.args.self.now.names.ids.now in
    let names = c.args.self.now.names.classes.now in
    let methods = map (named_text ids names c.args.self.now.names.listings.now.members) c.args.named.now in
    let there = class_there ids c.args.self.now.classes.now names c.args.owners.now c.requires.tables c.requires.names c.requires.owners c.args.row c.in_ok-stated.stated.now (sym c.in_ok-stated.ensures.value) in
    let never = c.in_err-class.ensures in
    not_stated ids c.args.self.now.classes.now names c.args.owners.now c.requires.tables c.requires.names c.requires.owners methods c.args.row c.from_residual-in_err-class.result c.from_residual-in_err-class.ensures
    (λ owner member named found. never (subst (Contains names) (sym c.type_name.ensures) there))

pub returns-in_err-number : goal.returns-in_err-number
returns-in_err-number c =
    let ids = c.args.self.now.names.ids.now in
    let names = c.args.self.now.names.classes.now in
    let listed = c.args.self.now.names.listings.now.members in
    let methods = map (named_text ids names listed) c.args.named.now in
    let never = rw c.owner_class.ensures at c.in_err-number.ensures in
    not_stated ids c.args.self.now.classes.now names c.args.owners.now c.requires.tables c.requires.names c.requires.owners methods c.args.row c.from_residual-in_err-number.result c.from_residual-in_err-number.ensures
    (unnamed ids c.args.self.now.classes.now names c.args.owners.now c.requires.tables c.requires.names c.requires.owners c.one_method_owner.ensures methods listed c.args.row c.in_ok-owner.owner.now (sym c.in_ok-owner.ensures.value) never)

pub returns : goal.returns
returns c =
    let ids = c.args.self.now.names.ids.now in
    let names = c.args.self.now.names.classes.now in
    let listed = c.args.self.now.names.listings.now.members in
    let methods = map (named_text ids names listed) c.args.named.now in
    let number = rw c.owner_class.ensures at c.in_ok-number.ensures in
    let class = c.in_ok-class.ensures ∙ ap Some c.type_name.ensures in
    linked_to ids c.args.self.now.classes.now names c.args.owners.now c.requires.tables c.requires.names c.requires.owners methods listed c.args.row c.in_ok-stated.stated.now c.in_ok-owner.owner.now _
    (sym c.in_ok-stated.ensures.value) (sym c.in_ok-owner.ensures.value) class number
