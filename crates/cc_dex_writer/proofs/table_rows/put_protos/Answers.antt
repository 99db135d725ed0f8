use Rattle.std.proofs.Common.{◌++◌, arith}
use Rattle.cc_dex_writer.specs.Rows.{numbered_form, proto_row_form}
use Rattle.cc_dex_writer.proofs.Numbered.{writes_more, writes_all}
use Rattle.cc_dex_writer.proofs.table_rows.put_protos.Goals as goal

pub loop-place-preserved : goal.loop-place-preserved
loop-place-preserved c =
    writes_more (proto_row_form c.args.offsets.now) c.loop-place.out c.put_proto.new.out c.args.protos.now c.loop-place.place c.index-protos-place.result
    (c.args.out.now ++ numbered_form (proto_row_form c.args.offsets.now) 0 c.args.protos.now) c.loop-place-test.true c.index-protos-place.is c.in_ok-put_proto.ensures c.loop-place.invariant

pub returns : goal.returns
returns c =
    writes_all (proto_row_form c.args.offsets.now) c.loop-place.out c.args.protos.now c.loop-place.place
    (c.args.out.now ++ numbered_form (proto_row_form c.args.offsets.now) 0 c.args.protos.now) (omega (arith, c.loop-place-test.false)) c.loop-place.invariant
