use Rattle.std.proofs.Common.{◌≡◌, None}
use Rattle.cc_meaning_dex.specs.Faults.{first_below}
use Rattle.cc_meaning_dex.specs.Ids.{EachSpelled}
use Rattle.cc_dexids.proofs.walk.read_table.Given as goal

abbrev pub invariant-loop-row : goal.invariant-loop-row
invariant-loop-row g l = (first_below (g.R.RowReader.fault l.reader) l.row ≡ None) × EachSpelled l.rows l.row (g.R.RowReader.spelled l.reader)
