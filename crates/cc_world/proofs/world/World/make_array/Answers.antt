use Rattle.std.proofs.Common.{◌≤◌, length, replicate}
use Rattle.cc_meaning.specs.declared.value.Object.TheVariants as object
use Rattle.cc_world.proofs.Growing.{grown}
use Rattle.cc_world.proofs.Rows.{names_kept}
use Rattle.cc_world.proofs.world.World.make_array.Goals as goal

pub invariant_of-self : goal.invariant_of-self
invariant_of-self c =
    let more : length c.self.inside.heap.objects ≤ length c.make_array.new.self.objects = grown c.make_array.result c.self.inside.heap c.make_array.new.self (object.Array c.args.class (replicate c.args.len c.args.value)) c.make_array.ensures.ok c.make_array.ensures.err in (
      c.self.invariant.0,
      (
        c.self.invariant.1.0,
        (
          names_kept c.self.inside.literals (length c.self.inside.heap.objects) (length c.make_array.new.self.objects) c.self.invariant.1.1.0 more,
          names_kept c.self.inside.constants (length c.self.inside.heap.objects) (length c.make_array.new.self.objects) c.self.invariant.1.1.1 more,
        ),
      ),
    )
