use Rattle.std.proofs.Common.{subst}
use Rattle.std.specs.Prelude.{List, Option}
use Rattle.cc_meaning.specs.declared.program.Placed.{Placed}
use Rattle.cc_bodies.specs.Gathering.{AddsUses, insns_of_methods}
use Rattle.cc_bodies.proofs.Gathering.{adds_none, adds_more}
use Rattle.cc_bodies.proofs.uses.add_classes.Goals as goal

pub loop-of_class-init : goal.loop-of_class-init
loop-of_class-init c = adds_none c.args.uses.now

pub loop-of_class-preserved : goal.loop-of_class-preserved
loop-of_class-preserved c =
    let added : AddsUses (insns_of_methods c.as_slice.result.now) c.loop-of_class.uses c.add_bodies.new.uses = c.in_ok-add_bodies.ensures in
    adds_more insns_of_methods c.args.bodies.now c.loop-of_class.of_class-index c.of_class-item.result c.args.uses.now c.loop-of_class.uses c.add_bodies.new.uses c.loop-of_class-test.true c.of_class-item.is c.loop-of_class.invariant (subst (λ (bodies : List (Option (List Placed))). AddsUses (insns_of_methods bodies) c.loop-of_class.uses c.add_bodies.new.uses) c.as_slice.ensures added)
