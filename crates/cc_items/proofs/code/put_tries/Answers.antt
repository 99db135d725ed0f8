use Rattle.std.proofs.Common.{◌≡◌, ◌+◌, ◌%◌, ◌++◌, List, length, ap, ◌∙◌, arith}
use Rattle.cc_meaning_builder.specs.Forms.{handler_form, tries_form, uleb_form}
use Rattle.cc_meaning.specs.declared.file.RawCatch.{RawCatch}
use Rattle.cc_items.proofs.Lists.{tries_more, tries_end}
use Rattle.cc_items.proofs.code.put_tries.Goals as goal

pub loop-covered-preserved : goal.loop-covered-preserved
loop-covered-preserved c =
    let before = c.loop-covered.invariant in
    let try = c.covered-item.result in
    let size : c.in_ok-offset.field-0 ≡ length (handler_form try.catches) % 65536 = c.in_ok-offset.ensures ∙ ap (λ (l : List RawCatch). length (handler_form l) % 65536) c.as_slice.ensures in
    record {
      whole = before.whole + length (handler_form try.catches);
      low = omega (arith, before.low, size);
      shows = tries_more c.loop-covered.out c.put_try.new.out c.loop-covered.offset before.whole c.args.tries.now c.loop-covered.covered-index try try
          (c.args.out.now ++ tries_form (length (uleb_form (length c.args.tries.now))) c.args.tries.now) c.loop-covered-test.true c.covered-item.is before.low c.in_ok-put_try.ensures before.shows;
    }

pub returns : goal.returns
returns c =
    tries_end c.loop-covered.out c.loop-covered.invariant.whole c.args.tries.now c.loop-covered.covered-index
    (c.args.out.now ++ tries_form (length (uleb_form (length c.args.tries.now))) c.args.tries.now) c.loop-covered-test.false c.loop-covered.invariant.shows
