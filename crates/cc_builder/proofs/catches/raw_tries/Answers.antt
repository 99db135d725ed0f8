use Rattle.std.proofs.Common.{arith}
use Rattle.cc_meaning_builder.specs.Members.{IsRawTry}
use Rattle.cc_meaning_builder.specs.Named.{try_names}
use Rattle.cc_builder.proofs.KnownNames.{of_one}
use Rattle.cc_builder.proofs.Pairs.{one_more, whole}
use Rattle.cc_builder.proofs.catches.raw_tries.Goals as goal

pub loop-listed-preserved : goal.loop-listed-preserved
loop-listed-preserved c = λ known.
    let ids = c.args.ids.now in
    let tries = c.args.tries.now in
    let place = c.loop-listed.listed-index in
    let listed = c.listed-item.result in
    let pair = c.in_ok-raw_try.ensures (of_one ids try_names tries place listed known c.loop-listed-test.true c.listed-item.is) in
    rw c.in_ok-push.ensures.ok (one_more (IsRawTry ids) tries c.loop-listed.made place listed _ (c.loop-listed.invariant known) c.loop-listed-test.true c.listed-item.is pair)

pub returns : goal.returns
returns c = λ known. whole (IsRawTry c.args.ids.now) c.args.tries.now c.loop-listed.made c.loop-listed.listed-index (c.loop-listed.invariant known) (omega (arith, c.loop-listed-test.false))
