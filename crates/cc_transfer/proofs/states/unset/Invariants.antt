use Rattle.std.proofs.Common.{◌≡◌, replicate}
use Rattle.cc_meaning.specs.declared.program.RegType.TheVariants.{Unset}
use Rattle.cc_transfer.proofs.states.unset.Given as goal

abbrev pub invariant-loop : goal.invariant-loop
invariant-loop l = l.registers ≡ replicate l.counter Unset
