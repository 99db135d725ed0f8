use Rattle.std.proofs.Common.{◌≡◌, ◌<◌, ◌-◌, ◌+◌, ℕ, List, length, Some, slice_get, ap, subst, refl, ◌∙◌}
use Rattle.std.proofs.lemmas.List.{length-set}
use Rattle.cc_meaning.specs.declared.value.Object.{Object}
use Rattle.cc_meaning_world.specs.Changes.{put_in}
use Rattle.cc_world.specs.Shapes.{values_in}
use Rattle.cc_world.specs.Flat.{Stored, span, formed, object_in}
use Rattle.cc_world.proofs.Flat.{laid_other, slot_written}
use Rattle.cc_world.proofs.Heaps.{has_values, head_read, object_read, slot_put, none_elsewhere, written}
use Rattle.cc_world.proofs.heap.Heap.set_slot.Goals as goal
use Rattle.std.proofs.Common.{slice_set, Option}

pub invariant_of-self : goal.invariant_of-self
invariant_of-self c = (
  c.self.invariant.0,
  laid_other c.self.inside.heads.items c.self.inside.row.items (slice_set c.self.inside.row.items (c.in-Slots.from + c.args.i) c.args.value) 0
      (length-set c.self.inside.row.items (c.in-Slots.from + c.args.i) c.args.value) c.self.invariant.1,
)

pub unreachable-requires : goal.unreachable-requires
unreachable-requires c =
    let same = ap (λ (s : Stored). s.objects) c.self.view_is in
    let within : c.args.id < length c.args.self.now.objects = has_values c.args.self.now.objects c.args.id c.args.i c.requires in
    let there : slice_get c.args.self.now.objects c.args.id ≡ Some (object_in c.self.inside.row.items c.index.result.now) =
    object_read c.self.inside.heads.items c.self.inside.row.items c.args.self.now.objects c.args.id c.index.result.now same within c.index.ensures in
    none_elsewhere c.index.result.now c.self.inside.row.items c.args.i
    (subst (λ (o : Option Object). c.args.i < length (values_in o)) there c.requires) c.in_default.not-Slots

pub returns : goal.returns
returns c =
    let same = ap (λ (s : Stored). s.objects) c.self.view_is in
    let read = c.index.ensures in
    let within : c.args.id < length c.args.self.now.objects = has_values c.args.self.now.objects c.args.id c.args.i c.requires in
    let put = slot_put c.self.inside.heads.items c.self.inside.row.items c.args.self.now.objects c.args.id c.args.i c.args.value c.index.result.now
    c.in-Slots.form c.in-Slots.class c.in-Slots.from c.in-Slots.len same c.requires c.index.ensures c.self.invariant.1 c.in-Slots.is in
    written (put_in c.args.i c.args.value (slice_get c.args.self.now.objects c.args.id))
    (formed c.in-Slots.form c.in-Slots.class (slice_set (span c.in-Slots.from c.in-Slots.len c.self.inside.row.items) c.args.i c.args.value)) c.args.id c.args.self.now _ put.1
    (slot_written c.self.inside.heads.items c.self.inside.row.items 0 c.args.id c.in-Slots.form c.in-Slots.class c.in-Slots.from c.in-Slots.len c.args.i
    (c.in-Slots.from + c.args.i) c.args.value c.self.invariant.1
    (head_read c.self.inside.heads.items c.self.inside.row.items c.args.self.now.objects c.args.id c.index.result.now same within c.index.ensures ∙ ap Some c.in-Slots.is) put.0 refl ∙
    ap (λ (os : List Object). slice_set os c.args.id (formed c.in-Slots.form c.in-Slots.class (slice_set (span c.in-Slots.from c.in-Slots.len c.self.inside.row.items) c.args.i c.args.value))) same)
    (ap (λ (s : Stored). s.spare_objects) c.self.view_is)
    (ap (λ (n : ℕ). c.self.inside.row.cap - n) (length-set c.self.inside.row.items (c.in-Slots.from + c.args.i) c.args.value) ∙ ap (λ (s : Stored). s.spare_slots) c.self.view_is)
