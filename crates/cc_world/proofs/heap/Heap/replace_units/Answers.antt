use Rattle.std.proofs.Common.{◌<◌, ◌-◌, ℕ, List, length, slice_set, ap, ◌∙◌, arith}
use Rattle.std.proofs.lemmas.List.{length-set}
use Rattle.cc_meaning.specs.declared.value.Object.{Object}
use Rattle.cc_meaning.specs.declared.value.Object.TheVariants as object
use Rattle.cc_world.specs.declared.heap.Head.TheVariants as head
use Rattle.cc_world.specs.Flat.{Stored}
use Rattle.cc_world.proofs.Flat.{laid_replaced, objects_replaced}
use Rattle.cc_world.proofs.Heaps.{has_builder, head_read, builder_has_none, same_stored}
use Rattle.cc_world.proofs.heap.Heap.replace_units.Goals as goal

pub invariant_of-self : goal.invariant_of-self
invariant_of-self c =
    let same = ap (λ (s : Stored). s.objects) c.self.view_is in
    let within : c.args.id < length c.args.self.now.objects = has_builder c.args.self.now.objects c.args.id c.requires.builder in (
      omega (arith, length-set c.self.inside.heads.items c.args.id (head.Builder c.args.units), c.self.invariant.0),
      laid_replaced c.self.inside.heads.items c.self.inside.row.items 0 c.args.id c.index_mut.result.now (head.Builder c.args.units) c.self.invariant.1
          (head_read c.self.inside.heads.items c.self.inside.row.items c.args.self.now.objects c.args.id c.index_mut.result.now same within c.index_mut.ensures.value)
          (builder_has_none c.self.inside.heads.items c.self.inside.row.items c.args.self.now.objects c.args.id c.index_mut.result.now same within c.index_mut.ensures.value c.requires.builder)
          c.requires.short,
    )

pub returns : goal.returns
returns c =
    same_stored _ _
    (objects_replaced c.self.inside.heads.items c.self.inside.row.items c.args.id (head.Builder c.args.units) ∙
    ap (λ (os : List Object). slice_set os c.args.id (object.Builder c.args.units)) (ap (λ (s : Stored). s.objects) c.self.view_is))
    (ap (λ (n : ℕ). c.self.inside.heads.cap - n) (length-set c.self.inside.heads.items c.args.id (head.Builder c.args.units)) ∙ ap (λ (s : Stored). s.spare_objects) c.self.view_is)
    (ap (λ (s : Stored). s.spare_slots) c.self.view_is)
