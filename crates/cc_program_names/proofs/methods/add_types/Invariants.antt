use Rattle.std.proofs.Common.{◌≡◌, ◌++◌, take}
use Rattle.std.specs.List.{flat_map}
use Rattle.cc_meaning.specs.Names.{descriptor}
use Rattle.cc_program_names.proofs.methods.add_types.Given as goal

abbrev pub invariant-loop-ty : goal.invariant-loop-ty
invariant-loop-ty l = l.name ≡ l.initial.name ++ flat_map (descriptor l.program) (take l.ty-index l.types)
