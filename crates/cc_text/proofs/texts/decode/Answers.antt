use Rattle.std.proofs.Common.{sym, ap, ◌∙◌, Ok}
use Rattle.cc_meaning_dex.specs.Mutf8.{front_of}
use Rattle.cc_text.proofs.Reading.{IsBehind-more}
use Rattle.cc_text.proofs.texts.decode.Goals as goal

pub loop-unit-preserved : goal.loop-unit-preserved
loop-unit-preserved c =
    let found = ap (front_of c.loop-unit.place) (sym c.split_at.ensures.back) ∙ sym c.front.ensures ∙ c.in-Ok-Some.is ∙ ap Ok c.in-Ok-Some.field-0-is in
    let more = IsBehind-more c.text_steps.ensures c.args.at c.args.bytes.now c.loop-unit.units.items c.loop-unit.place c.in-Ok-Some.unit c.in-Ok-Some.size c.loop-unit.invariant found in
    rw c.in_ok-push-in-Ok-Some.ensures.items more
