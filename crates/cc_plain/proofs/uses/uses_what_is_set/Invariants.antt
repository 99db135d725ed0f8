use Rattle.std.proofs.Common.{◌↔◌, drop}
use Rattle.cc_meaning_plain.specs.Code.{held_at_first, UsesWhatIsSet}
use Rattle.cc_plain.proofs.uses.uses_what_is_set.Given as goal

-- what is left of the instructions uses what is set, exactly if all of them do
abbrev pub invariant-loop-insn : goal.invariant-loop-insn
invariant-loop-insn l = UsesWhatIsSet l.last l.held (drop l.insn-index l.insns) ↔ UsesWhatIsSet l.last (held_at_first l.last l.registers) l.insns
