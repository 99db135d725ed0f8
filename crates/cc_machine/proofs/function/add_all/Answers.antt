use Rattle.std.proofs.Common.{rules}
use Rattle.cc_meaning_plain.specs.Text.{numbers_after}
use Rattle.cc_machine.proofs.Given.{adds_on, adds_to_end}
use Rattle.cc_machine.proofs.function.add_all.Goals as goal

pub loop-insn-preserved : goal.loop-insn-preserved
loop-insn-preserved c =
    adds_on c.loop-insn.numbers c.add.new.numbers c.args.insns.now c.loop-insn.insn-index _ (numbers_after c.args.numbers.now c.args.insns.now)
    c.loop-insn-test.true (search rules) c.add.ensures c.loop-insn.invariant

pub returns : goal.returns
returns c = adds_to_end c.loop-insn.numbers c.args.insns.now c.loop-insn.insn-index (numbers_after c.args.numbers.now c.args.insns.now) c.loop-insn-test.false c.loop-insn.invariant
