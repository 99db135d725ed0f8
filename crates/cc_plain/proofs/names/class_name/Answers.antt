use Rattle.std.proofs.Common.{◌<◌, arith}
use Rattle.cc_meaning_plain.specs.declared.table.Table.TheVariants.{Types}
use Rattle.cc_meaning_plain.specs.Tables.{row_count}
use Rattle.cc_plain.proofs.TextLemmas.{type_row_read}
use Rattle.cc_plain.proofs.names.class_name.Goals as goal

pub returns : goal.returns
returns c =
    let stands : c.args.row < row_count c.args.file.now Types = omega arith in
    type_row_read c.args.file.now c.args.row c.text_row.result stands (rw (c.u32_at.ensures, c.row_at.ensures.exact) at c.text_row.ensures)
