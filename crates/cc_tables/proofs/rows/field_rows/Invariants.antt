use Rattle.std.proofs.Common.{◌≡◌, map, take}
use Rattle.cc_tables.specs.Places.{field_row_of}
use Rattle.cc_tables.proofs.rows.field_rows.Given as goal

abbrev pub invariant-loop-field : goal.invariant-loop-field
invariant-loop-field l = l.rows ≡ map (field_row_of l.ids) (take l.field-index l.fields)
