use Rattle.std.proofs.Common.{take}
use Rattle.cc_meaning_dex.specs.Classes.{EachPair}
use Rattle.cc_dex_writer.specs.Items.{IsShortOf}
use Rattle.cc_dex_writer.proofs.tables.short_rows.Given as goal

abbrev pub invariant-loop-proto : goal.invariant-loop-proto
invariant-loop-proto l = EachPair (IsShortOf l.ids) l.rows (take l.proto-index l.protos)
