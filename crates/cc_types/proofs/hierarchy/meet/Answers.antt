use Rattle.cc_types.proofs.Walks.{meets_start, meets_step, meets_go, meets_end}
use Rattle.cc_types.proofs.hierarchy.meet.Goals as goal

pub loop-second-init : goal.loop-second-init
loop-second-init c =
    let tree = c.law_tree.ensures c.args.program.now c.requires.hierarchy in
    let orders = c.law_types.ensures c.args.program.now c.requires.hierarchy in
    meets_start c.args.program.now tree orders c.args.a c.args.b c.requires.level

pub above-first-requires-clause-below : goal.above-first-requires-clause-below
above-first-requires-clause-below c =
    let tree = c.law_tree.ensures c.args.program.now c.requires.hierarchy in
    let orders = c.law_types.ensures c.args.program.now c.requires.hierarchy in
    (meets_go c.args.program.now tree orders c.args.a c.args.b c.loop-second.first c.loop-second.second c.loop-second.invariant (λ e. let h = c.same_type.ensures.equal.1 e in absurd (cc))).0

pub above-second-requires-clause-below : goal.above-second-requires-clause-below
above-second-requires-clause-below c =
    let tree = c.law_tree.ensures c.args.program.now c.requires.hierarchy in
    let orders = c.law_types.ensures c.args.program.now c.requires.hierarchy in
    (meets_go c.args.program.now tree orders c.args.a c.args.b c.loop-second.first c.loop-second.second c.loop-second.invariant (λ e. let h = c.same_type.ensures.equal.1 e in absurd (cc))).1

pub loop-second-preserved : goal.loop-second-preserved
loop-second-preserved c =
    let tree = c.law_tree.ensures c.args.program.now c.requires.hierarchy in
    let orders = c.law_types.ensures c.args.program.now c.requires.hierarchy in
    meets_step c.args.program.now tree orders c.args.a c.args.b c.loop-second.first c.loop-second.second c.above-first.result c.above-second.result c.loop-second.invariant (λ e. let h = c.same_type.ensures.equal.1 e in absurd (cc)) c.above-first.ensures c.above-second.ensures

pub returns : goal.returns
returns c =
    let tree = c.law_tree.ensures c.args.program.now c.requires.hierarchy in
    let orders = c.law_types.ensures c.args.program.now c.requires.hierarchy in
    let leasts = c.law_least_type.ensures c.args.program.now c.requires.hierarchy in
    meets_end c.args.program.now tree orders leasts c.args.a c.args.b c.loop-second.first c.loop-second.second c.loop-second.invariant (c.same_type.ensures.equal.0 c.loop-second-test.false)
