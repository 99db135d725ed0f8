use Rattle.std.proofs.Common.{◌≡◌, ◌++◌, take}
use Rattle.std.specs.List.{flat_map}
use Rattle.cc_meaning_typing.specs.States.{registers_of}
use Rattle.cc_transfer.proofs.states.add_parameters.Given as goal

abbrev pub invariant-loop-ty : goal.invariant-loop-ty
invariant-loop-ty l = l.registers ≡ l.initial.registers ++ flat_map (registers_of l.program) (take l.ty-index l.params)
