use Rattle.cc_program.proofs.Climbing.{climbs_step, fewer_left}
use Rattle.cc_program.proofs.layouts.unsettled.Goals as goal

pub loop-next-smaller : goal.loop-next-smaller
loop-next-smaller c =
    fewer_left c.args.outlines.now c.args.class c.loop-next.path c.push.new.self c.in-Some.above c.superclass-next.result c.in_ok-push.ensures.ok c.requires.heights
    (climbs_step c.args.outlines.now c.args.class c.loop-next.path c.push.new.self c.loop-next.next c.superclass-next.result c.in-Some.above c.requires.heights c.loop-next.invariant c.in-Some.is c.in_ok-push.ensures.ok c.superclass-next.ensures)

pub loop-next-preserved : goal.loop-next-preserved
loop-next-preserved c =
    climbs_step c.args.outlines.now c.args.class c.loop-next.path c.push.new.self c.loop-next.next c.superclass-next.result c.in-Some.above c.requires.heights c.loop-next.invariant c.in-Some.is c.in_ok-push.ensures.ok c.superclass-next.ensures
