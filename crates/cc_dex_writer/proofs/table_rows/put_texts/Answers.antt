use Rattle.std.proofs.Common.{◌++◌, [], get_or, arith, sym}
use Rattle.std.proofs.lemmas.Option.{get_or_from_slice_get, slice_get-get_or}
use Rattle.cc_dex_writer.specs.Rows.{numbered_form, text_row_form}
use Rattle.cc_dex_writer.proofs.Numbered.{writes_more, writes_all}
use Rattle.cc_dex_writer.proofs.table_rows.put_texts.Goals as goal

pub loop-place-preserved : goal.loop-place-preserved
loop-place-preserved c =
    let texts = c.args.texts.now in
    let row = get_or texts c.loop-place.place [] in
    let is = sym (get_or_from_slice_get texts c.loop-place.place row row (slice_get-get_or texts c.loop-place.place [] c.loop-place-test.true)) in
    writes_more (text_row_form c.args.offsets.now) c.loop-place.out c.put_text.new.out texts c.loop-place.place row
    (c.args.out.now ++ numbered_form (text_row_form c.args.offsets.now) 0 texts) c.loop-place-test.true is c.in_ok-put_text.ensures c.loop-place.invariant

pub returns : goal.returns
returns c =
    writes_all (text_row_form c.args.offsets.now) c.loop-place.out c.args.texts.now c.loop-place.place
    (c.args.out.now ++ numbered_form (text_row_form c.args.offsets.now) 0 c.args.texts.now) (omega (arith, c.loop-place-test.false)) c.loop-place.invariant
