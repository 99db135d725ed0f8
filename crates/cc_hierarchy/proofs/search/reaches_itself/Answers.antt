use Rattle.std.proofs.Common.{◌<◌, length, subst, ◌∙◌, arith}
use Rattle.std.specs.Prelude.{Contains}
use Rattle.cc_hierarchy.proofs.Searching.{edge_there, row_is, searched_first, searched_more, searched_all, awaited_within, nothing_held}
use Rattle.cc_hierarchy.proofs.search.reaches_itself.Goals as goal

pub mark_all-requires : goal.mark_all-requires
mark_all-requires c = λ node held.
    let is = row_is c.args.graph.now c.args.start c.as_slice.result.now c.index-graph-start.result c.as_slice.ensures c.index-graph-start.is in
    let below : node < length c.args.graph.now = c.requires.whole c.args.start node (edge_there c.args.graph.now c.args.start node c.as_slice.result.now c.requires.start is held) in
    omega (arith, below, c.in_ok-marks.ensures.length)

pub loop-node-init : goal.loop-node-init
loop-node-init c =
    let is = row_is c.args.graph.now c.args.start c.as_slice.result.now c.index-graph-start.result c.as_slice.ensures c.index-graph-start.is in
    let more = c.in_ok-mark_all.ensures in
    searched_first c.args.graph.now c.args.start c.in_ok-marks.marks c.mark_all.new.marks c.new-awaited.result c.as_slice.result.now c.mark_all.new.awaited c.requires.start is
    c.in_ok-marks.ensures.none (λ node held. nothing_held node (subst (λ a. Contains a node) c.new-awaited.ensures held)) (more.length ∙ c.in_ok-marks.ensures.length) more.marked more.awaited more.all

pub bounds-graph-node : goal.bounds-graph-node
bounds-graph-node c = awaited_within c.args.graph.now c.args.start c.loop-node.marks c.loop-node.awaited c.pop.new.self c.in-Some.node c.in-Some.ensures c.loop-node.invariant

pub mark_all-requires-in-Some : goal.mark_all-requires-in-Some
mark_all-requires-in-Some c = λ node held.
    let within = awaited_within c.args.graph.now c.args.start c.loop-node.marks c.loop-node.awaited c.pop.new.self c.in-Some.node c.in-Some.ensures c.loop-node.invariant in
    let is = row_is c.args.graph.now c.in-Some.node c.as_slice-in-Some.result.now c.index-graph-node.result c.as_slice-in-Some.ensures c.index-graph-node.is in
    let below : node < length c.args.graph.now = c.requires.whole c.in-Some.node node (edge_there c.args.graph.now c.in-Some.node node c.as_slice-in-Some.result.now within is held) in
    omega (arith, below, c.loop-node.invariant.wide)

pub loop-node-preserved : goal.loop-node-preserved
loop-node-preserved c =
    let within = awaited_within c.args.graph.now c.args.start c.loop-node.marks c.loop-node.awaited c.pop.new.self c.in-Some.node c.in-Some.ensures c.loop-node.invariant in
    let is = row_is c.args.graph.now c.in-Some.node c.as_slice-in-Some.result.now c.index-graph-node.result c.as_slice-in-Some.ensures c.index-graph-node.is in
    let more = c.in_ok-mark_all-2.ensures in
    searched_more c.args.graph.now c.args.start c.in-Some.node c.loop-node.marks c.mark_all-in-Some.new.marks c.loop-node.awaited c.pop.new.self c.as_slice-in-Some.result.now c.mark_all-in-Some.new.awaited
    c.in-Some.ensures within is c.loop-node.invariant more.length more.marked more.awaited more.kept more.all

pub returns : goal.returns
returns c = searched_all c.args.graph.now c.args.start c.loop-node.marks c.loop-node.awaited c.at.result.now c.in_default.ensures.0 c.loop-node.invariant c.at.ensures.get
