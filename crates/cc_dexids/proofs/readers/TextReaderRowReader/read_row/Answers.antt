use Rattle.std.proofs.Common.{ap, ◌∙◌}
use Rattle.cc_meaning_dex.specs.Numbers.{u32_at}
use Rattle.cc_dexids.proofs.Spelling.{text_row}
use Rattle.cc_dexids.proofs.readers.TextReaderRowReader.read_row.Goals as goal

pub returns-in-Ok : goal.returns-in-Ok
returns-in-Ok c =
    let file = c.args.self.now.file.now in
    let place = c.u32_at-at.ensures ∙ ap (u32_at file) c.row_at.ensures.exact in
    rw c.from_vec.ensures (text_row file c.args.row c.u32_at-at.result c.in-Ok.units.items place c.in-Ok.ensures.ok c.in-Ok.ensures.spelled)
