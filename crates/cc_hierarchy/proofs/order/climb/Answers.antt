use Rattle.std.proofs.Common.{arith}
use Rattle.cc_hierarchy.proofs.Climbing.{climb_start, climb_on, climb_until, climb_whole, superclass_read, way_within}
use Rattle.cc_hierarchy.proofs.order.climb.Goals as goal

pub loop-next-init : goal.loop-next-init
loop-next-init c = climb_start c.args.outlines.now c.args.marks.now c.args.from c.new-passed.result c.requires.wide c.new-passed.ensures

pub enter-requires : goal.enter-requires
enter-requires c =
    let so_far = rw c.in-Some.is at c.loop-next.invariant in
    let within = way_within c.args.outlines.now c.args.from c.in-Some.class c.loop-next.passed c.requires.ends c.requires.from so_far.on in
    omega (arith, within, c.loop-next.invariant.wide)

pub returns-then-not-enter-clause-climbed : goal.returns-then-not-enter-clause-climbed
returns-then-not-enter-clause-climbed c =
    climb_until c.args.outlines.now c.args.marks.now c.loop-next.marks c.enter.new.marks c.args.from c.in-Some.class c.loop-next.passed c.requires.ends c.requires.from (rw c.in-Some.is at c.loop-next.invariant) c.if-not-enter.ensures.known
    c.enter.ensures.marked

pub bounds-outlines-class : goal.bounds-outlines-class
bounds-outlines-class c =
    let so_far = rw c.in-Some.is at c.loop-next.invariant in
    way_within c.args.outlines.now c.args.from c.in-Some.class c.loop-next.passed c.requires.ends c.requires.from so_far.on

pub bounds-outlines-class-in_ok-push : goal.bounds-outlines-class-in_ok-push
bounds-outlines-class-in_ok-push c =
    let so_far = rw c.in-Some.is at c.loop-next.invariant in
    way_within c.args.outlines.now c.args.from c.in-Some.class c.loop-next.passed c.requires.ends c.requires.from so_far.on

pub loop-next-preserved : goal.loop-next-preserved
loop-next-preserved c =
    let so_far = rw c.in-Some.is at c.loop-next.invariant in
    let within = way_within c.args.outlines.now c.args.from c.in-Some.class c.loop-next.passed c.requires.ends c.requires.from so_far.on in
    climb_on c.args.outlines.now c.args.marks.now c.loop-next.marks c.enter.new.marks c.args.from c.in-Some.class _ c.loop-next.passed c.push.new.self so_far c.if-not-enter.ensures.fresh c.enter.ensures.length c.enter.ensures.marked
    c.in_ok-push.ensures.ok (superclass_read c.args.outlines.now c.in-Some.class c.index-outlines-class.result within)

pub returns-clause-climbed : goal.returns-clause-climbed
returns-clause-climbed c = climb_whole c.args.outlines.now c.args.marks.now c.loop-next.marks c.args.from c.loop-next.passed (rw c.in_default.is at c.loop-next.invariant)
