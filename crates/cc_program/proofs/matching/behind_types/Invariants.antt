use Rattle.std.proofs.Common.{◌≡◌, drop}
use Rattle.std.specs.List.{flat_map}
use Rattle.cc_meaning_program.specs.Named.{type_name}
use Rattle.cc_program.specs.Matching.{without}
use Rattle.cc_program.proofs.matching.behind_types.Given as goal

abbrev pub invariant-loop-row : goal.invariant-loop-row
invariant-loop-row l = without l.initial.rest (flat_map (type_name l.ids) l.types) ≡ without l.rest (flat_map (type_name l.ids) (drop l.row-index l.types))
