use Rattle.std.proofs.Common.{◌-◌, ◌+◌, ◌++◌, ap, ◌∙◌, refl, ◌%◌, arith}
use Rattle.cc_meaning_insn.specs.Forms.{registers_from}
use Rattle.cc_insn.proofs.Going.{registers-step, registers-all}
use Rattle.cc_insn.proofs.lists.registers_from.Goals as goal

pub loop-preserved : goal.loop-preserved
loop-preserved c =
    ap (λ items. items ++ registers_from (c.args.count - (c.loop.counter + 1)) ((c.loop.next + 1) % 65536)) c.in_ok-push.ensures.items
    ∙ registers-step c.loop.registers.items (registers_from c.args.count c.args.first) c.args.count c.loop.counter c.loop.next ((c.loop.next + 1) % 65536)
    (omega arith) refl c.loop.invariant

pub returns : goal.returns
returns c =
    c.from_vec.ensures
    ∙ registers-all c.loop.registers.items (registers_from c.args.count c.args.first) c.args.count c.loop.counter c.loop.next (omega arith) c.loop.invariant
