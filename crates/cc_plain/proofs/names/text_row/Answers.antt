use Rattle.std.proofs.Common.{◌<◌, arith}
use Rattle.cc_meaning_plain.specs.declared.table.Table.TheVariants.{Texts}
use Rattle.cc_meaning_plain.specs.Tables.{row_count}
use Rattle.cc_plain.proofs.TextLemmas.{text_row_read}
use Rattle.cc_plain.proofs.names.text_row.Goals as goal

pub returns : goal.returns
returns c =
    let stands : c.args.row < row_count c.args.file.now Texts = omega arith in
    text_row_read c.args.file.now c.args.row c.text_item.result stands (rw (c.u32_at.ensures, c.row_at.ensures.exact) at c.text_item.ensures)
