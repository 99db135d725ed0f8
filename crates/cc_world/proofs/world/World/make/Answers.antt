use Rattle.std.proofs.Common.{◌≤◌, length}
use Rattle.cc_world.proofs.Growing.{grown}
use Rattle.cc_world.proofs.Rows.{names_kept}
use Rattle.cc_world.proofs.world.World.make.Goals as goal

pub invariant_of-self : goal.invariant_of-self
invariant_of-self c =
    let more : length c.self.inside.heap.objects ≤ length c.make.new.self.objects = grown c.make.result c.self.inside.heap c.make.new.self (c.args.object) c.make.ensures.ok c.make.ensures.err in (
      c.self.invariant.0,
      (
        c.self.invariant.1.0,
        (
          names_kept c.self.inside.literals (length c.self.inside.heap.objects) (length c.make.new.self.objects) c.self.invariant.1.1.0 more,
          names_kept c.self.inside.constants (length c.self.inside.heap.objects) (length c.make.new.self.objects) c.self.invariant.1.1.1 more,
        ),
      ),
    )
