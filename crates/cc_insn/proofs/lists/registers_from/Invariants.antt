use Rattle.std.proofs.Common.{◌≡◌, ◌-◌, ◌++◌}
use Rattle.cc_meaning_insn.specs.Forms.{registers_from}
use Rattle.cc_insn.proofs.lists.registers_from.Given as goal

abbrev pub invariant-loop : goal.invariant-loop
invariant-loop l = l.registers.items ++ registers_from (l.count - l.counter) l.next ≡ registers_from l.count l.first
