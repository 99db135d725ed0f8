use Rattle.std.proofs.Common.{arith}
use Rattle.cc_meaning_builder.specs.Named.{field_names}
use Rattle.cc_builder.specs.Placed.{IsPlacedField}
use Rattle.cc_builder.proofs.KnownNames.{of_one}
use Rattle.cc_builder.proofs.Pairs.{one_more, whole}
use Rattle.cc_builder.proofs.fields.placed_fields.Goals as goal

pub loop-field-preserved : goal.loop-field-preserved
loop-field-preserved c = λ known.
    let ids = c.args.ids.now in
    let class = c.args.class.now in
    let fields = c.args.fields.now in
    let place = c.loop-field.field-index in
    let field = c.field-item.result in
    let pair = c.placed_field.ensures (of_one ids (field_names class) fields place field known c.loop-field-test.true c.field-item.is) in
    rw c.in_ok-push.ensures.ok (one_more (IsPlacedField ids class) fields c.loop-field.placed place field c.placed_field.result (c.loop-field.invariant known) c.loop-field-test.true c.field-item.is pair)

pub returns : goal.returns
returns c = λ known. whole (IsPlacedField c.args.ids.now c.args.class.now) c.args.fields.now c.loop-field.placed c.loop-field.field-index (c.loop-field.invariant known) (omega (arith, c.loop-field-test.false))
