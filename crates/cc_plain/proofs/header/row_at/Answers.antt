use Rattle.cc_plain.proofs.RowLemmas.{row_within}
use Rattle.cc_plain.proofs.header.row_at.Goals as goal

pub returns-clause-within : goal.returns-clause-within
returns-clause-within c = rw (c.table_at.ensures, c.row_bytes.ensures.exact) (row_within c.args.file.now c.args.table c.args.row c.requires.tables c.requires.row)
