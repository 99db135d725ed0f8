use Rattle.std.proofs.Common.{◌++◌, refl, arith, slice_index_or}
use Rattle.cc_meaning_dex.specs.Mutf8.{mutf8_bytes}
use Rattle.cc_items.proofs.Lists.{forms_more, forms_end}
use Rattle.cc_items.proofs.texts.put_forms.Goals as goal

pub loop-unit-preserved : goal.loop-unit-preserved
loop-unit-preserved c =
    let units = c.args.units.now in
    forms_more c.loop-unit.out c.put_form.new.out units c.loop-unit.unit-index (slice_index_or units c.loop-unit.unit-index 0) 0 (c.args.out.now ++ mutf8_bytes units)
    (omega arith) refl c.in_ok-put_form.ensures c.loop-unit.invariant

pub returns : goal.returns
returns c = forms_end c.loop-unit.out c.args.units.now c.loop-unit.unit-index (c.args.out.now ++ mutf8_bytes c.args.units.now) (omega arith) c.loop-unit.invariant
