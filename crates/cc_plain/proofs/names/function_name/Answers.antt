use Rattle.std.proofs.Common.{◌<◌, arith}
use Rattle.cc_meaning_plain.specs.declared.table.Table.TheVariants.{Methods}
use Rattle.cc_meaning_plain.specs.Tables.{row_count}
use Rattle.cc_plain.proofs.TextLemmas.{function_read}
use Rattle.cc_plain.proofs.names.function_name.Goals as goal

pub returns : goal.returns
returns c =
    let stands : c.args.row < row_count c.args.file.now Methods = omega arith in
    let belongs = rw (c.from-type_row.ensures, c.u16_at.ensures, c.row_at-at.ensures.exact) at (c.in_ok-is_named.ensures.0 c.if-not-branch.false) in
    let prototype = rw (c.from.ensures, c.u16_at-2.ensures, c.row_at-at.ensures.exact) at (c.is_prototype_row.ensures.0 c.if-not-is_prototype_row.false) in
    function_read c.args.file.now c.args.class.now c.args.row c.typed_text_row.result stands belongs prototype (rw (c.u32_at.ensures, c.row_at-at.ensures.exact) at c.typed_text_row.ensures)
