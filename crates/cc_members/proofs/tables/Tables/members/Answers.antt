use Rattle.std.proofs.Common.{slice_get, sym, ap, ◌∙◌}
use Rattle.std.specs.Prelude.{option_and_then}
use Rattle.cc_members.proofs.Outlined.{outlined, members_by}
use Rattle.cc_members.proofs.tables.Tables.members.Goals as goal

pub returns-in-Some : goal.returns-in-Some
returns-in-Some c =
    let ids = c.args.self.now.names.ids.now in
    let classes = c.args.self.now.classes.now in
    let names = c.args.self.now.names.classes.now in
    let outline = c.in_ok-outline.outline.now in
    let is = outlined ids names c.args.self.now.outlines.now c.args.number outline c.requires.tables.outlines c.requires.there (sym c.in_ok-outline.ensures.value) in
    c.get-in-Some.ensures.value ∙ (sym (ap (option_and_then (slice_get classes)) c.in-Some.is) ∙ members_by ids classes names _ outline is)

pub returns-in-None : goal.returns-in-None
returns-in-None c =
    let ids = c.args.self.now.names.ids.now in
    let classes = c.args.self.now.classes.now in
    let names = c.args.self.now.names.classes.now in
    let outline = c.in_ok-outline.outline.now in
    let is = outlined ids names c.args.self.now.outlines.now c.args.number outline c.requires.tables.outlines c.requires.there (sym c.in_ok-outline.ensures.value) in
    sym (ap (option_and_then (slice_get classes)) c.in-None.is) ∙ members_by ids classes names _ outline is
