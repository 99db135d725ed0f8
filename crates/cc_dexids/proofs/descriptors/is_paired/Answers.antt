use Rattle.std.proofs.Common.{sym, ◌∙◌}
use Rattle.cc_dexids.proofs.Units.{paired_more, not_paired, paired_all}
use Rattle.cc_dexids.proofs.descriptors.is_paired.Goals as goal

pub returns-then-begun-ends : goal.returns-then-begun-ends
returns-then-begun-ends c =
    sym (c.loop-unit.invariant ∙ not_paired c.args.units.now c.loop-unit.unit-index c.loop-unit.begun c.loop-unit-test.true (rw c.is_low-ends.ensures at c.if-begun-ends.true))

pub loop-unit-preserved : goal.loop-unit-preserved
loop-unit-preserved c =
    rw c.is_high-begun.ensures
    (c.loop-unit.invariant ∙ paired_more c.args.units.now c.loop-unit.unit-index c.loop-unit.begun c.loop-unit-test.true (rw c.is_low-ends.ensures at c.if-begun-ends.false))

pub returns : goal.returns
returns c = sym (c.loop-unit.invariant ∙ paired_all c.args.units.now c.loop-unit.unit-index c.loop-unit.begun c.loop-unit-test.false)
