use Rattle.cc_plain.proofs.UsesLemmas.{uses_start}
use Rattle.cc_plain.proofs.uses.uses_what_is_set.Goals as goal

pub loop-insn-init : goal.loop-insn-init
loop-insn-init c = rw c.put_argument.ensures (uses_start c.from.result c.args.registers c.args.last c.args.insns.now c.from.ensures c.requires.some c.requires.few)
