use Rattle.std.proofs.Common.{◌++◌, Option, refl, ap, ◌∙◌, slice_index_or}
use Rattle.std.specs.Prelude.{pos}
use Rattle.cc_meaning.specs.declared.program.StaticValue.TheVariants as static
use Rattle.cc_meaning_dex.specs.declared.items.ValueKind.{ValueKind}
use Rattle.cc_meaning_builder.specs.Forms.{each_value_form, value_form}
use Rattle.cc_items.proofs.Lists.{values_more, values_end}
use Rattle.cc_items.proofs.values.put_each.Goals as goal

pub loop-place-preserved : goal.loop-place-preserved
loop-place-preserved c =
    let i = c.loop-place.place in
    let value = slice_index_or c.args.values.now i (static.Int (pos 0)) in
    values_more c.args.ids.now c.args.fields.now c.loop-place.out c.put_value.new.out c.args.values.now i value (static.Int (pos 0))
    (c.args.out.now ++ each_value_form c.args.ids.now c.args.fields.now c.args.values.now) c.loop-place-test.true refl
    (c.in_ok-put_value.ensures ∙ ap (λ (kind : Option ValueKind). c.loop-place.out ++ value_form kind value) c.kind_at.ensures) c.loop-place.invariant

pub returns : goal.returns
returns c =
    values_end c.args.ids.now c.args.fields.now c.loop-place.out c.args.values.now c.loop-place.place
    (c.args.out.now ++ each_value_form c.args.ids.now c.args.fields.now c.args.values.now) c.loop-place-test.false c.loop-place.invariant
