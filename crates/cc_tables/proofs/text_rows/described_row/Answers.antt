use Rattle.cc_tables.proofs.Typed.{typed_is_described}
use Rattle.cc_tables.proofs.text_rows.described_row.Goals as goal

pub returns : goal.returns
returns c = typed_is_described c.args.ids.now c.requires.texts c.args.name.now c.in_ok-text.text c.typed_row.result c.in_ok-text.ensures c.typed_row.ensures
