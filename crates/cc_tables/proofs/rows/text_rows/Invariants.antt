use Rattle.std.proofs.Common.{◌≡◌, map, take}
use Rattle.cc_tables.specs.Places.{text_place}
use Rattle.cc_tables.proofs.rows.text_rows.Given as goal

abbrev pub invariant-loop-text : goal.invariant-loop-text
invariant-loop-text l = l.rows ≡ map (text_place l.ids) (take l.text-index l.texts)
