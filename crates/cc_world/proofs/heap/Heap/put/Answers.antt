use Rattle.std.proofs.Common.{ap}
use Rattle.cc_world.specs.Flat.{Stored}
use Rattle.cc_world.proofs.Heaps.{pushed_whole}
use Rattle.cc_world.proofs.heap.Heap.put.Goals as goal

pub invariant_of-self : goal.invariant_of-self
invariant_of-self c =
    pushed_whole c.self.inside.heads.items c.push_reserved.new.self.items c.self.inside.row.items c.args.self.now.objects c.args.head
    (ap (λ (s : Stored). s.objects) c.self.view_is) c.push_reserved.ensures.items c.requires.few c.self.invariant.1 c.requires.whole
