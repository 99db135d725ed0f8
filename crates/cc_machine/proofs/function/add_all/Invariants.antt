use Rattle.std.proofs.Common.{◌≡◌, drop}
use Rattle.cc_meaning_plain.specs.Text.{numbers_after}
use Rattle.cc_machine.proofs.function.add_all.Given as goal

abbrev pub invariant-loop-insn : goal.invariant-loop-insn
invariant-loop-insn l = numbers_after l.numbers (drop l.insn-index l.insns) ≡ numbers_after l.initial.numbers l.insns
