use Rattle.std.proofs.Common.{length, ap, arith}
use Rattle.cc_bodies.specs.Floats.{ProtoFloats}
use Rattle.cc_bodies.proofs.Loops.{item_there}
use Rattle.cc_bodies.proofs.FloatLemmas.{no_proto_floats, more_flags, all_flags, proto_flag}
use Rattle.cc_bodies.proofs.floats.proto_flags.Goals as goal

pub loop-prototype-preserved : goal.loop-prototype-preserved
loop-prototype-preserved c =
    let ids = c.args.ids.now in
    let items = c.as_slice-prototype-items.result.now in
    let row = c.loop-prototype.prototype-index in
    let there = item_there items row c.prototype-item.result c.loop-prototype-test.true c.prototype-item.is in
    let one = proto_flag ids items row c.prototype-item.result c.prototype_floats.result c.as_slice-prototype-items.ensures there (c.prototype_floats.ensures ids c.requires) in
    rw c.in_ok-push.ensures.ok (more_flags (ProtoFloats ids) c.loop-prototype.flags row c.prototype_floats.result one c.loop-prototype.invariant)

pub returns : goal.returns
returns c =
    let ids = c.args.ids.now in
    all_flags (ProtoFloats ids) c.loop-prototype.flags c.loop-prototype.prototype-index
    (λ row past. no_proto_floats ids row (omega (arith, ap length c.as_slice-prototype-items.ensures, c.loop-prototype-test.false, past))) c.loop-prototype.invariant
