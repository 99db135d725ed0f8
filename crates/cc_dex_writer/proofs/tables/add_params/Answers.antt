use Rattle.std.proofs.Common.{length, refl}
use Rattle.std.proofs.lemmas.Option.{slice_get_read}
use Rattle.cc_dex_writer.specs.Items.{ParamsStand}
use Rattle.cc_dex_writer.proofs.Adding.{none_yet, one_more, all_done}
use Rattle.cc_dex_writer.proofs.tables.add_params.Goals as goal

pub loop-proto-init : goal.loop-proto-init
loop-proto-init c = none_yet ParamsStand c.args.section.now c.new-offsets.result c.args.protos.now c.new-offsets.ensures

pub loop-proto-preserved : goal.loop-proto-preserved
loop-proto-preserved c =
    let items = c.args.protos.now in
    let there = slice_get_read items (length items) c.loop-proto.proto-index c.proto-item.result refl c.loop-proto-test.true c.proto-item.is in
    rw c.in_ok-push.ensures.ok (one_more ParamsStand c.args.section.now c.loop-proto.section c.add_types.new.self c.loop-proto.offsets items c.loop-proto.proto-index c.in_ok-at.at c.proto-item.result there c.loop-proto.invariant (rw c.as_slice.ensures at c.in_ok-at.ensures.stands))

pub returns : goal.returns
returns c = all_done ParamsStand c.args.section.now c.loop-proto.section c.loop-proto.offsets c.args.protos.now c.loop-proto.proto-index c.loop-proto-test.false c.loop-proto.invariant
