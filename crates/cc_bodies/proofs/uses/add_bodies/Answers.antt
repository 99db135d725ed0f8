use Rattle.cc_bodies.specs.Gathering.{AddsUses, insns_of_body}
use Rattle.cc_bodies.proofs.Gathering.{adds_none, adds_more}
use Rattle.cc_bodies.proofs.uses.add_bodies.Goals as goal
use Rattle.cc_bodies.proofs.uses.add_bodies.Goals.{in-Some+in_ok-add_insns, in_default}

pub loop-body-init : goal.loop-body-init
loop-body-init c = adds_none c.args.uses.now

pub loop-body-preserved : goal.loop-body-preserved
loop-body-preserved c =
    let here : AddsUses (insns_of_body c.body-item.result) c.loop-body.uses c.match-body.uses = elim c.match-body.branch [
      | in-Some+in_ok-add_insns w ↦ rw (w.uses-is, w.in-Some.is, ← w.as_slice.ensures) w.in_ok-add_insns.ensures
      | in_default w ↦ rw (w.uses-is, w.in_default.is) (adds_none c.loop-body.uses)
    ] in
    adds_more insns_of_body c.args.bodies.now c.loop-body.body-index c.body-item.result c.args.uses.now c.loop-body.uses c.match-body.uses c.loop-body-test.true c.body-item.is c.loop-body.invariant here
