use Rattle.std.proofs.Common.{◌<◌, length, arith}
use Rattle.cc_hierarchy.proofs.Certifying.{on_no_cycle, way_from_within}
use Rattle.cc_hierarchy.proofs.cycles.first_on_cycle.Goals as goal

pub is_on_cycle-requires-clause-certified : goal.is_on_cycle-requires-clause-certified
is_on_cycle-requires-clause-certified c = λ yes. on_no_cycle c.args.graph.now c.as_slice.result.now c.as_slice-suspects.result.now (c.descends-certified.ensures yes)

pub returns : goal.returns
returns c = λ node way.
    let within : node < length c.args.graph.now = way_from_within c.args.graph.now node node way in
    c.loop-node.invariant node (omega (arith, within, c.loop-node-test.false)) way
