use Rattle.cc_meaning_dex.specs.CodeItems.{type_width}
use Rattle.cc_dexcode.proofs.Registers.{too_many, one_more, all_taken}
use Rattle.cc_dexcode.proofs.code.fill_registers.Goals as goal

pub returns-then-left-width : goal.returns-then-left-width
returns-then-left-width c =
    too_many (type_width c.args.ids.now) c.args.params.now c.loop-row.row-index c.loop-row.left c.type_width-width.result c.args.receiver c.args.registers
    c.loop-row-test.true c.loop-row.invariant c.type_width-width.ensures.exact c.if-left-width.true

pub loop-row-preserved : goal.loop-row-preserved
loop-row-preserved c =
    one_more (type_width c.args.ids.now) c.args.params.now c.loop-row.row-index c.loop-row.left c.type_width-width.result c.args.registers
    c.loop-row-test.true c.loop-row.invariant c.type_width-width.ensures.exact c.if-left-width.false

pub returns : goal.returns
returns c =
    all_taken (type_width c.args.ids.now) c.args.params.now c.loop-row.row-index c.loop-row.left c.args.receiver c.args.registers c.loop-row-test.false c.loop-row.invariant
