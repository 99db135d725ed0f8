use Rattle.std.proofs.Common.{ℕ, ◌<◌, length, IfSome, ap, subst}
use Rattle.cc_world.specs.Held.{Held}
use Rattle.cc_world.proofs.Rows.{named}
use Rattle.cc_world.proofs.world.World.constant.Goals as goal

pub returns-clause-object : goal.returns-clause-object
returns-clause-object c =
    subst (λ (n : ℕ). IfSome c.at.result.now (λ id. id < n)) (ap (λ (h : Held). length h.world.objects) c.self.view_is)
    (named c.self.inside.constants c.args.class (length c.self.inside.heap.objects) c.at.result.now c.self.invariant.1.1.1 c.at.ensures.get)
