use Rattle.std.proofs.Common.{map, sym, ap, ◌∙◌}
use Rattle.cc_built_in.specs.BuiltInMethods.{built_in_member}
use Rattle.cc_meaning_program.specs.OwnMembers.{built_in_by_kind}
use Rattle.cc_members.proofs.Outlined.{outlined, listed_by}
use Rattle.cc_members.proofs.tables.Tables.table.Goals as goal

pub returns : goal.returns
returns c =
    let names = c.args.self.now.names.classes.now in
    let outline = c.in_ok-outline.outline.now in
    let is = outlined c.args.self.now.names.ids.now names c.args.self.now.outlines.now c.args.number outline c.requires.tables.outlines c.requires.there (sym c.in_ok-outline.ensures.value) in
    c.table_of.ensures ∙ ap (λ name. map built_in_member (built_in_by_kind outline.kind name)) c.class.ensures ∙ listed_by c.args.self.now.names.ids.now names _ outline is
