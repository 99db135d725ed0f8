use Rattle.std.specs.Prelude.{All, take}
use Rattle.cc_meaning_typing.specs.Growth.{IsNarrowRegister}
use Rattle.cc_verify.proofs.table.look_at.Given as goal

abbrev pub invariant-loop-known : goal.invariant-loop-known
invariant-loop-known l = All IsNarrowRegister (take l.known-index l.registers)
