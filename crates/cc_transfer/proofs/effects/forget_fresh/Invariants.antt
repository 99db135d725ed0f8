use Rattle.std.proofs.Common.{◌≡◌, ◌++◌, map, take, drop, length}
use Rattle.cc_meaning_typing.specs.States.{without_fresh}
use Rattle.cc_transfer.proofs.effects.forget_fresh.Given as goal

abbrev pub invariant-loop-at : goal.invariant-loop-at
invariant-loop-at l = record {
  written : l.registers ≡ map (without_fresh l.made) (take l.at l.initial.registers) ++ drop l.at l.initial.registers;
  long : length l.registers ≡ length l.initial.registers;
}
