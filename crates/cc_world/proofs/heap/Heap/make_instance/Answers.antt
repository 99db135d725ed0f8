use Rattle.std.proofs.Common.{◌++◌, ◌∷◌, [], length, ap, refl, ◌∙◌, arith}
use Rattle.cc_world.specs.declared.heap.Form.TheVariants as form
use Rattle.cc_world.specs.declared.heap.Head.{Head}
use Rattle.cc_world.specs.declared.heap.Head.TheVariants as head
use Rattle.cc_world.specs.Flat.{Stored}
use Rattle.cc_world.proofs.Heaps.{pushed_slots, slots_pushed}
use Rattle.cc_world.proofs.heap.Heap.make_instance.Goals as goal
use Rattle.std.proofs.Common.{List}

pub invariant_of-self-2 : goal.invariant_of-self-2
invariant_of-self-2 c =
    pushed_slots c.self.inside.heads.items c.push_reserved.new.self.items c.self.inside.row.items c.extend_from_slice.new.self.items c.args.values.now c.args.self.now.objects
    form.Instance c.args.class c.len-from.result (length c.args.values.now)
    (ap (λ (s : Stored). s.objects) c.self.view_is)
    (c.push_reserved.ensures.items ∙ ap (λ (hs : List Head). hs ++ head.Slots form.Instance c.args.class c.len-from.result (length c.args.values.now) ∷ []) c.in_ok-reserve.ensures.items)
    c.in_ok-extend_from_slice.ensures.items c.requires c.self.invariant.1 (c.len-from.ensures ∙ c.self.inside.row.ok.0) refl (omega (arith, c.if-values-gt-LONGEST.false))

pub returns-clause-ok : goal.returns-clause-ok
returns-clause-ok c =
    slots_pushed c.self.inside.heads.items c.push_reserved.new.self.items c.self.inside.row.items c.extend_from_slice.new.self.items c.args.values.now c.args.self.now.objects
    form.Instance c.args.class c.len-from.result (length c.args.values.now)
    (ap (λ (s : Stored). s.objects) c.self.view_is)
    (c.push_reserved.ensures.items ∙ ap (λ (hs : List Head). hs ++ head.Slots form.Instance c.args.class c.len-from.result (length c.args.values.now) ∷ []) c.in_ok-reserve.ensures.items)
    c.in_ok-extend_from_slice.ensures.items c.self.invariant.1 (c.len-from.ensures ∙ c.self.inside.row.ok.0) refl
