use Rattle.std.proofs.lemmas.Option.{slice_get-get_or}
use Rattle.cc_bodies.specs.Linked.{CatchLinked}
use Rattle.cc_bodies.proofs.CodeLoops.{pairs_none, pairs_more, pairs_all}
use Rattle.cc_bodies.proofs.code.link_catches.Goals as goal

pub loop-catch-init : goal.loop-catch-init
loop-catch-init c = rw c.new-catches.ensures (pairs_none (CatchLinked c.args.links.now) c.args.stated.now)

pub link_catch-requires : goal.link_catch-requires
link_catch-requires c = c.requires c.loop-catch.catch-index _ (slice_get-get_or c.args.stated.now c.loop-catch.catch-index _ c.loop-catch-test.true)

pub loop-catch-preserved : goal.loop-catch-preserved
loop-catch-preserved c =
    rw c.in_ok-push.ensures.ok (pairs_more (CatchLinked c.args.links.now) c.args.stated.now c.loop-catch.catch-index _ c.loop-catch.catches c.link_catch.result (slice_get-get_or c.args.stated.now c.loop-catch.catch-index _ c.loop-catch-test.true) c.link_catch.ensures c.loop-catch.invariant)

pub returns : goal.returns
returns c = pairs_all (CatchLinked c.args.links.now) c.args.stated.now c.loop-catch.catch-index c.loop-catch.catches c.loop-catch-test.false c.loop-catch.invariant
