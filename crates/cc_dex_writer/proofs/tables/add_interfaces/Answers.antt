use Rattle.std.proofs.Common.{length, refl}
use Rattle.std.proofs.lemmas.Option.{slice_get_read}
use Rattle.cc_dex_writer.specs.Items.{InterfacesStand}
use Rattle.cc_dex_writer.proofs.Adding.{none_yet, one_more, all_done}
use Rattle.cc_dex_writer.proofs.tables.add_interfaces.Goals as goal

pub loop-class-init : goal.loop-class-init
loop-class-init c = none_yet InterfacesStand c.args.section.now c.new-offsets.result c.args.classes.now c.new-offsets.ensures

pub loop-class-preserved : goal.loop-class-preserved
loop-class-preserved c =
    let items = c.args.classes.now in
    let there = slice_get_read items (length items) c.loop-class.class-index c.class-item.result refl c.loop-class-test.true c.class-item.is in
    rw c.in_ok-push.ensures.ok (one_more InterfacesStand c.args.section.now c.loop-class.section c.add_types.new.self c.loop-class.offsets items c.loop-class.class-index c.in_ok-at.at c.class-item.result there c.loop-class.invariant (rw c.as_slice.ensures at c.in_ok-at.ensures.stands))

pub returns : goal.returns
returns c = all_done InterfacesStand c.args.section.now c.loop-class.section c.loop-class.offsets c.args.classes.now c.loop-class.class-index c.loop-class-test.false c.loop-class.invariant
