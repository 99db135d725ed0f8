use Rattle.std.proofs.Common.{refl, subst, List}
use Rattle.cc_meaning.specs.declared.file.RawCatch.{RawCatch}
use Rattle.cc_meaning_program.specs.Members.{Pairs}
use Rattle.cc_bodies.specs.Linked.{CatchLinked, TryLinked}
use Rattle.cc_bodies.proofs.CodeLoops.{pairs_none, pairs_more, pairs_all, item_there}
use Rattle.cc_bodies.proofs.code.link_tries.Goals as goal

pub loop-item-init : goal.loop-item-init
loop-item-init c = rw c.new-tries.ensures (pairs_none (TryLinked c.args.links.now) c.args.stated.now)

pub link_catches-requires : goal.link_catches-requires
link_catches-requires c =
    let there = item_there c.args.stated.now c.loop-item.item-index c.item-item.result c.loop-item-test.true c.item-item.is in
    rw c.as_slice.ensures (c.requires c.loop-item.item-index c.item-item.result there)

pub loop-item-preserved : goal.loop-item-preserved
loop-item-preserved c =
    let there = item_there c.args.stated.now c.loop-item.item-index c.item-item.result c.loop-item-test.true c.item-item.is in
    let linked : Pairs (CatchLinked c.args.links.now) c.as_slice.result.now c.in_ok-link_catches.field-0 = c.in_ok-link_catches.ensures in
    let catches : Pairs (CatchLinked c.args.links.now) c.item-item.result.catches c.in_ok-link_catches.field-0 =
    subst (λ (stated : List RawCatch). Pairs (CatchLinked c.args.links.now) stated c.in_ok-link_catches.field-0) c.as_slice.ensures linked in
    rw c.in_ok-push.ensures.ok (pairs_more (TryLinked c.args.links.now) c.args.stated.now c.loop-item.item-index c.item-item.result c.loop-item.tries _ there (record { start = refl; end = refl; catches = catches }) c.loop-item.invariant)

pub returns : goal.returns
returns c = pairs_all (TryLinked c.args.links.now) c.args.stated.now c.loop-item.item-index c.loop-item.tries c.loop-item-test.false c.loop-item.invariant
