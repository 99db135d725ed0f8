use Rattle.std.proofs.Common.{refl}
use Rattle.cc_bodies.specs.Linked.{CatchTyped}
use Rattle.cc_bodies.proofs.code.link_catch.Goals as goal
use Rattle.cc_bodies.proofs.code.link_catch.Goals.{in-Some, in-None}

pub returns : goal.returns
returns c =
    let kind : CatchTyped c.args.links.now c.args.stated.now.row c.match-stated.kind = elim c.match-stated.branch [
      | in-Some w ↦ rw (w.in-Some.is, w.kind-is) w.type_of.ensures
      | in-None w ↦ rw (w.in-None.is, w.kind-is) tt
    ] in
    record { at = refl; kind = kind }
