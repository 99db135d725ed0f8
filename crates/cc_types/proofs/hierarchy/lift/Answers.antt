use Rattle.std.proofs.Common.{◌∙◌, sym}
use Rattle.cc_types.proofs.Walks.{lifted_step, lifted_more}
use Rattle.cc_types.proofs.hierarchy.lift.Goals as goal

pub above-lifted-requires-clause-below : goal.above-lifted-requires-clause-below
above-lifted-requires-clause-below c =
    let tree = c.law_tree.ensures c.args.program.now c.requires.hierarchy in
    let orders = c.law_types.ensures c.args.program.now c.requires.hierarchy in
    λ e. lifted_more c.args.program.now tree orders c.args.low c.args.ahead c.loop-next.lifted c.loop-next.left c.in-Some.next c.requires.room c.loop-next.invariant (sym c.next_above.ensures ∙ c.in-Some.is) e

pub loop-next-preserved : goal.loop-next-preserved
loop-next-preserved c =
    let tree = c.law_tree.ensures c.args.program.now c.requires.hierarchy in
    let orders = c.law_types.ensures c.args.program.now c.requires.hierarchy in
    lifted_step c.args.program.now tree orders c.args.low c.args.ahead c.loop-next.lifted c.loop-next.left c.above-lifted.result c.in-Some.next c.loop-next.invariant (sym c.next_above.ensures ∙ c.in-Some.is) c.above-lifted.ensures
