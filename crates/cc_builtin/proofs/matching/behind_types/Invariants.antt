use Rattle.std.proofs.Common.{◌≡◌, drop}
use Rattle.std.specs.List.{flat_map}
use Rattle.cc_meaning.specs.Names.{descriptor}
use Rattle.cc_units.specs.Matching.{without}
use Rattle.cc_builtin.proofs.matching.behind_types.Given as goal

abbrev pub invariant-loop-ty : goal.invariant-loop-ty
invariant-loop-ty l = without l.initial.rest (flat_map (descriptor l.program) l.types) ≡ without l.rest (flat_map (descriptor l.program) (drop l.ty-index l.types))
