use Rattle.std.proofs.Common.{◌≡◌, ◌++◌, take}
use Rattle.std.specs.List.{flat_map}
use Rattle.cc_meaning_program.specs.Named.{type_name}
use Rattle.cc_tables.proofs.prototypes.behind_types.Given as goal

abbrev pub invariant-loop-row : goal.invariant-loop-row
invariant-loop-row l = l.units ≡ flat_map (type_name l.ids) (take l.row-index l.types) ++ l.rest
