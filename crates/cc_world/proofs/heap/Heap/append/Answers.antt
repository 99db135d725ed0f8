use Rattle.std.proofs.Common.{◌≡◌, ◌<◌, ◌-◌, ◌++◌, ℕ, List, length, Some, slice_get, slice_set, ap, sym, ◌∙◌, arith}
use Rattle.std.proofs.lemmas.List.{length-set, length-append}
use Rattle.cc_meaning.specs.declared.value.Object.{Object}
use Rattle.cc_meaning.specs.declared.value.Object.TheVariants as object
use Rattle.cc_meaning_world.specs.Changes.{more_units}
use Rattle.cc_world.specs.declared.heap.Head.{Head}
use Rattle.cc_world.specs.declared.heap.Head.TheVariants as head
use Rattle.cc_world.specs.Flat.{Stored, object_in}
use Rattle.cc_world.proofs.Flat.{laid_replaced, objects_replaced}
use Rattle.cc_world.proofs.Heaps.{has_builder, head_read, object_read, builder_has_none, builder_more, written}
use Rattle.cc_world.proofs.heap.Heap.append.Goals as goal

pub invariant_of-self-2 : goal.invariant_of-self-2
invariant_of-self-2 c =
    let same = ap (λ (s : Stored). s.objects) c.self.view_is in
    let within : c.args.id < length c.args.self.now.objects = has_builder c.args.self.now.objects c.args.id c.requires in
    let whole : length c.extend_from_slice.new.self ≡ length (c.in-Builder.held ++ c.args.units.now) = ap (λ (us : List ℕ). length us) c.in_ok-extend_from_slice-in-Builder.ensures.ok in (
      omega (arith, length-set c.self.inside.heads.items c.args.id (head.Builder c.extend_from_slice.new.self), c.self.invariant.0),
      laid_replaced c.self.inside.heads.items c.self.inside.row.items 0 c.args.id c.index_mut.result.now (head.Builder c.extend_from_slice.new.self) c.self.invariant.1
          (head_read c.self.inside.heads.items c.self.inside.row.items c.args.self.now.objects c.args.id c.index_mut.result.now same within c.index_mut.ensures.value)
          (builder_has_none c.self.inside.heads.items c.self.inside.row.items c.args.self.now.objects c.args.id c.index_mut.result.now same within c.index_mut.ensures.value c.requires)
          (omega (arith, whole, length-append c.in-Builder.held c.args.units.now, c.len.ensures.value, c.if-units-gt-LONGEST.false, c.if-len-units.false)),
    )

pub returns-clause-ok : goal.returns-clause-ok
returns-clause-ok c =
    let same = ap (λ (s : Stored). s.objects) c.self.view_is in
    let within : c.args.id < length c.args.self.now.objects = has_builder c.args.self.now.objects c.args.id c.requires in
    let there : slice_get c.args.self.now.objects c.args.id ≡ Some (object.Builder c.in-Builder.held) =
    object_read c.self.inside.heads.items c.self.inside.row.items c.args.self.now.objects c.args.id c.index_mut.result.now same within c.index_mut.ensures.value ∙
    ap (λ (h : Head). Some (object_in c.self.inside.row.items h)) c.in-Builder.is in
    written (more_units c.args.units.now (slice_get c.args.self.now.objects c.args.id)) (object.Builder c.extend_from_slice.new.self) c.args.id c.args.self.now _
    (ap (more_units c.args.units.now) there ∙ (builder_more c.in-Builder.held c.args.units.now ∙ ap (λ (us : List ℕ). Some (object.Builder us)) (sym c.in_ok-extend_from_slice-in-Builder.ensures.ok)))
    (objects_replaced c.self.inside.heads.items c.self.inside.row.items c.args.id (head.Builder c.extend_from_slice.new.self) ∙
    ap (λ (os : List Object). slice_set os c.args.id (object.Builder c.extend_from_slice.new.self)) same)
    (ap (λ (n : ℕ). c.self.inside.heads.cap - n) (length-set c.self.inside.heads.items c.args.id (head.Builder c.extend_from_slice.new.self)) ∙ ap (λ (s : Stored). s.spare_objects) c.self.view_is)
    (ap (λ (s : Stored). s.spare_slots) c.self.view_is)
