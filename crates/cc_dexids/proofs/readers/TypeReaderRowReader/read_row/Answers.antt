use Rattle.std.proofs.Common.{sym, ap, ◌∙◌}
use Rattle.cc_meaning_dex.specs.Numbers.{u32_at}
use Rattle.cc_dexids.proofs.Spelling.{type_row}
use Rattle.cc_dexids.proofs.readers.TypeReaderRowReader.read_row.Goals as goal

pub returns-then-is_descriptor : goal.returns-then-is_descriptor
returns-then-is_descriptor c =
    let file = c.args.self.now.file.now in
    let place = c.u32_at-text.ensures ∙ ap (u32_at file) c.row_at.ensures.exact in
    type_row file c.args.row c.u32_at-text.result place (sym c.is_descriptor.ensures ∙ c.if-is_descriptor.true)
