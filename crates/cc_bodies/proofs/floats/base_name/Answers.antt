use Rattle.std.proofs.Common.{sym, ap, ◌∙◌}
use Rattle.cc_meaning_program.specs.ClassNames.{base_name}
use Rattle.cc_bodies.proofs.FloatLemmas.{some_units, base_of_none, base_behind, base_here}
use Rattle.cc_bodies.proofs.floats.base_name.Goals as goal

pub loop-base-preserved : goal.loop-base-preserved
loop-base-preserved c =
    ap base_name c.split_at.ensures.back
    ∙ base_behind c.loop-base.base.now (some_units c.loop-base.base.now c.is_empty.result c.is_empty.ensures c.loop-base-test.true) c.if-base-eq-ARRAY.true
    ∙ c.loop-base.invariant

pub returns-else-base-eq-ARRAY : goal.returns-else-base-eq-ARRAY
returns-else-base-eq-ARRAY c = sym (base_here c.loop-base.base.now c.if-base-eq-ARRAY.false) ∙ c.loop-base.invariant

pub returns-after-loop-base : goal.returns-after-loop-base
returns-after-loop-base c = sym (base_of_none c.loop-base.base.now c.is_empty.result c.is_empty.ensures c.loop-base-test.false) ∙ c.loop-base.invariant
