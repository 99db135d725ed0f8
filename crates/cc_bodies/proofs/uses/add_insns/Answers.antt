use Rattle.std.proofs.Common.{subst}
use Rattle.std.proofs.lemmas.List.{take_all}
use Rattle.cc_meaning.specs.declared.program.Placed.{Placed}
use Rattle.std.specs.Prelude.{List}
use Rattle.cc_bodies.specs.Gathering.{AddsUses}
use Rattle.cc_bodies.proofs.Gathering.{adds_none, adds_next}
use Rattle.cc_bodies.proofs.uses.add_insns.Goals as goal

pub loop-placed-init : goal.loop-placed-init
loop-placed-init c = adds_none c.args.uses.now

pub loop-placed-preserved : goal.loop-placed-preserved
loop-placed-preserved c =
    adds_next c.args.insns.now c.loop-placed.placed-index c.placed-item.result c.args.uses.now c.loop-placed.uses _ c.loop-placed-test.true c.placed-item.is c.loop-placed.invariant c.in_ok-add_method.ensures c.in_ok-add_field.ensures

pub returns : goal.returns
returns c = subst (λ (insns : List Placed). AddsUses insns c.args.uses.now c.loop-placed.uses) (take_all c.loop-placed.placed-index c.args.insns.now c.loop-placed-test.false) c.loop-placed.invariant
