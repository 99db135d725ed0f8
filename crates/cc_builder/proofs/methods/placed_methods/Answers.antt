use Rattle.std.proofs.Common.{arith}
use Rattle.cc_meaning_builder.specs.Named.{method_names}
use Rattle.cc_builder.specs.Placed.{IsPlacedMethod}
use Rattle.cc_builder.proofs.KnownNames.{of_one}
use Rattle.cc_builder.proofs.Pairs.{one_more, whole}
use Rattle.cc_builder.proofs.methods.placed_methods.Goals as goal

pub loop-method-preserved : goal.loop-method-preserved
loop-method-preserved c = λ known.
    let ids = c.args.ids.now in
    let class = c.args.class.now in
    let methods = c.args.methods.now in
    let place = c.loop-method.method-index in
    let method = c.method-item.result in
    let pair = c.in_ok-placed_method.ensures (of_one ids (method_names class) methods place method known c.loop-method-test.true c.method-item.is) in
    rw c.in_ok-push.ensures.ok (one_more (IsPlacedMethod ids class) methods c.loop-method.placed place method _ (c.loop-method.invariant known) c.loop-method-test.true c.method-item.is pair)

pub returns : goal.returns
returns c = λ known. whole (IsPlacedMethod c.args.ids.now c.args.class.now) c.args.methods.now c.loop-method.placed c.loop-method.method-index (c.loop-method.invariant known) (omega (arith, c.loop-method-test.false))
