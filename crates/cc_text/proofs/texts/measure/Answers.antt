use Rattle.std.proofs.Common.{sym, ap, ◌∙◌, Ok}
use Rattle.cc_meaning_dex.specs.Mutf8.{front_of}
use Rattle.cc_text.proofs.Reading.{IsMeasured-more}
use Rattle.cc_text.proofs.texts.measure.Goals as goal

pub loop-size-preserved : goal.loop-size-preserved
loop-size-preserved c =
    let found = ap (front_of c.loop-size.place) (sym c.split_at.ensures.back) ∙ sym c.front.ensures ∙ c.in-Ok-Some.is ∙ ap Ok c.in-Ok-Some.field-0-is in
    IsMeasured-more c.text_steps.ensures c.args.at c.args.bytes.now c.loop-size.count c.loop-size.place c.in-Ok-Some.field-0-0-0 c.in-Ok-Some.size c.loop-size.invariant found
