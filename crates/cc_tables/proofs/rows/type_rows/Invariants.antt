use Rattle.std.proofs.Common.{◌≡◌, map, take}
use Rattle.cc_tables.specs.Places.{type_place}
use Rattle.cc_tables.proofs.rows.type_rows.Given as goal

abbrev pub invariant-loop-name : goal.invariant-loop-name
invariant-loop-name l = l.rows ≡ map (type_place l.ids) (take l.name-index l.names)
