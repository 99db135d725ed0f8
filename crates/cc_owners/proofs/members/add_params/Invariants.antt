use Rattle.std.proofs.Common.{◌≡◌, ◌++◌, take}
use Rattle.std.specs.List.{flat_map}
use Rattle.cc_meaning_program.specs.Named.{type_name}
use Rattle.cc_owners.proofs.members.add_params.Given as goal

abbrev pub invariant-loop-ty : goal.invariant-loop-ty
invariant-loop-ty l = l.text ≡ l.initial.text ++ flat_map (type_name l.ids) (take l.ty-index l.params)
