use Rattle.std.proofs.Common.{arith}
use Rattle.cc_meaning_builder.specs.Members.{IsRawCatch}
use Rattle.cc_meaning_builder.specs.Named.{catch_names}
use Rattle.cc_builder.proofs.KnownNames.{of_one}
use Rattle.cc_builder.proofs.Pairs.{one_more, whole}
use Rattle.cc_builder.proofs.catches.raw_catches.Goals as goal

pub loop-catch-preserved : goal.loop-catch-preserved
loop-catch-preserved c = λ known.
    let ids = c.args.ids.now in
    let catches = c.args.catches.now in
    let place = c.loop-catch.catch-index in
    let catch = c.catch-item.result in
    let pair = c.raw_catch.ensures (of_one ids catch_names catches place catch known c.loop-catch-test.true c.catch-item.is) in
    rw c.in_ok-push.ensures.ok (one_more (IsRawCatch ids) catches c.loop-catch.made place catch c.raw_catch.result (c.loop-catch.invariant known) c.loop-catch-test.true c.catch-item.is pair)

pub returns : goal.returns
returns c = λ known. whole (IsRawCatch c.args.ids.now) c.args.catches.now c.loop-catch.made c.loop-catch.catch-index (c.loop-catch.invariant known) (omega (arith, c.loop-catch-test.false))
