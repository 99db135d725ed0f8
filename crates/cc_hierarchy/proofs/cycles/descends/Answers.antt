use Rattle.std.proofs.Common.{◌<◌, length, refl, arith}
use Rattle.cc_hierarchy.proofs.Certifying.{descends_more, edge_from_within}
use Rattle.cc_hierarchy.proofs.Searching.{row_is}
use Rattle.cc_hierarchy.proofs.cycles.descends.Goals as goal

pub loop-from-preserved : goal.loop-from-preserved
loop-from-preserved c =
    let is = row_is c.args.graph.now c.loop-from.from c.as_slice.result.now c.index-graph-from.result c.as_slice.ensures c.index-graph-from.is in
    descends_more c.args.graph.now c.args.levels.now c.args.suspects.now c.loop-from.from c.as_slice.result.now c.loop-from-test.true is c.loop-from.invariant (c.if-not-edges_descend.ensures refl)

pub returns : goal.returns
returns c = λ yes from to e.
    let within : from < length c.args.graph.now = edge_from_within c.args.graph.now from to e in
    c.loop-from.invariant from to (omega (arith, within, c.loop-from-test.false)) e
