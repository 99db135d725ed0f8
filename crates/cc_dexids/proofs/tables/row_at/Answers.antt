use Rattle.cc_dexids.proofs.Placed.{row_within}
use Rattle.cc_dexids.proofs.tables.row_at.Goals as goal

pub returns-clause-within : goal.returns-clause-within
returns-clause-within c = rw (c.table_at.ensures, c.row_bytes.ensures.exact) (row_within c.args.file.now c.args.table c.args.row c.requires.laid_out.tables c.requires.row)
