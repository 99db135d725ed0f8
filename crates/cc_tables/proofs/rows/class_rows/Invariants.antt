use Rattle.std.proofs.Common.{◌≡◌, map, take}
use Rattle.cc_tables.specs.Places.{class_row_of}
use Rattle.cc_tables.proofs.rows.class_rows.Given as goal

abbrev pub invariant-loop-class : goal.invariant-loop-class
invariant-loop-class l = l.rows ≡ map (class_row_of l.ids) (take l.class-index l.content)
