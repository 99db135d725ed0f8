use Rattle.std.proofs.Common.{◌≡◌, Some, None, slice_get, sym, ap, ◌∙◌}
use Rattle.cc_hierarchy.proofs.Numbering.{type_numbered}
use Rattle.cc_hierarchy.proofs.sources.Sources.number_of_type.Goals as goal

pub unreachable-requires-in-None : goal.unreachable-requires-in-None
unreachable-requires-in-None c =
    let sources = c.args.self.now in
    let (number, is, there) = type_numbered sources.ids.now sources.names.now sources.by_text.now c.args.row c.in-Some.text.now c.requires.ready.names c.requires.ready.numbers c.requires.row (sym c.in-Some.ensures.value) in
    let no : None ≡ Some number = c.in-None.ensures ∙ is in
    cc

pub returns : goal.returns
returns c =
    let sources = c.args.self.now in
    let (number, is, there) = type_numbered sources.ids.now sources.names.now sources.by_text.now c.args.row c.in-Some.text.now c.requires.ready.names c.requires.ready.numbers c.requires.row (sym c.in-Some.ensures.value) in
    let both : Some c.in-Some-number_at.number ≡ Some number = c.in-Some-number_at.ensures ∙ is in
    let same : c.in-Some-number_at.number ≡ number = cc in
    ap (slice_get sources.names.now) same ∙ there
