use Rattle.std.proofs.Common.{◌∙◌, sym}
use Rattle.cc_types.proofs.Walks.{climb_next, climb_end}
use Rattle.cc_types.proofs.hierarchy.object_class.Goals as goal

pub loop-above-preserved : goal.loop-above-preserved
loop-above-preserved c = climb_next c.args.program.now c.requires c.loop-above.invariant.0 c.loop-above.class c.in-Some.above (sym c.superclass.ensures ∙ c.in-Some.is) c.loop-above.invariant.1

pub returns : goal.returns
returns c = climb_end c.args.program.now c.loop-above.invariant.0 c.loop-above.class (sym c.in_default.ensures) c.loop-above.invariant.1
