use Rattle.std.proofs.Common.{◌≡◌, map, take}
use Rattle.cc_tables.specs.Places.{proto_row_of}
use Rattle.cc_tables.proofs.rows.proto_rows.Given as goal

abbrev pub invariant-loop-method : goal.invariant-loop-method
invariant-loop-method l = l.rows ≡ map (proto_row_of l.ids) (take l.method-index l.methods)
