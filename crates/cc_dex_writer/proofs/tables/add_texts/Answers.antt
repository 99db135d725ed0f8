use Rattle.std.proofs.Common.{length, refl}
use Rattle.std.proofs.lemmas.Option.{slice_get_read}
use Rattle.cc_meaning_dex.specs.Texts.{SpellsText}
use Rattle.cc_dex_writer.proofs.Adding.{none_yet, one_more, all_done}
use Rattle.cc_dex_writer.proofs.tables.add_texts.Goals as goal

pub loop-units-init : goal.loop-units-init
loop-units-init c = none_yet SpellsText c.args.section.now c.new-offsets.result c.args.texts.now c.new-offsets.ensures

pub loop-units-preserved : goal.loop-units-preserved
loop-units-preserved c =
    let items = c.args.texts.now in
    let there = slice_get_read items (length items) c.loop-units.units-index c.units-item.result refl c.loop-units-test.true c.units-item.is in
    rw c.in_ok-push.ensures.ok (one_more SpellsText c.args.section.now c.loop-units.section c.add_text.new.self c.loop-units.offsets items c.loop-units.units-index c.in_ok-at.at c.units-item.result there c.loop-units.invariant (rw c.as_slice.ensures at c.in_ok-at.ensures))

pub returns : goal.returns
returns c = all_done SpellsText c.args.section.now c.loop-units.section c.loop-units.offsets c.args.texts.now c.loop-units.units-index c.loop-units-test.false c.loop-units.invariant
