use Rattle.std.proofs.Common.{◌<◌, ◌^◌, ℕ, length, Some, ap, sym, ◌∙◌, arith}
use Rattle.cc_world.specs.declared.heap.Head.{Head}
use Rattle.cc_world.specs.declared.shape.Shape.TheVariants as shape
use Rattle.cc_world.specs.Shapes.{shape_of}
use Rattle.cc_world.specs.Flat.{Stored, object_in}
use Rattle.cc_world.proofs.Flat.{text_fits, builder_fits}
use Rattle.cc_world.proofs.Heaps.{head_read, shape_read, slots_shape}
use Rattle.cc_world.proofs.heap.Heap.shape.Goals as goal

pub overflow_cast-result : goal.overflow_cast-result
overflow_cast-result c =
    let short : length c.in-Text.units < 2 ^ 32 = text_fits c.self.inside.heads.items c.self.inside.row.items 0 c.args.id c.in-Text.units c.self.invariant.1
    (head_read c.self.inside.heads.items c.self.inside.row.items c.args.self.now.objects c.args.id c.index.result.now (ap (λ (s : Stored). s.objects) c.self.view_is) c.requires c.index.ensures ∙ ap Some c.in-Text.is) in
    omega (arith, short, c.len.ensures.value)

pub overflow_cast-result-in-Builder : goal.overflow_cast-result-in-Builder
overflow_cast-result-in-Builder c =
    let short : length c.in-Builder.units < 2 ^ 32 = builder_fits c.self.inside.heads.items c.self.inside.row.items 0 c.args.id c.in-Builder.units c.self.invariant.1
    (head_read c.self.inside.heads.items c.self.inside.row.items c.args.self.now.objects c.args.id c.index.result.now (ap (λ (s : Stored). s.objects) c.self.view_is) c.requires c.index.ensures ∙ ap Some c.in-Builder.is) in
    omega (arith, short, c.len-in-Builder.ensures.value)

pub returns-in-Out : goal.returns-in-Out
returns-in-Out c =
    shape_read c.self.inside.heads.items c.self.inside.row.items c.args.self.now.objects c.args.id c.index.result.now (ap (λ (s : Stored). s.objects) c.self.view_is) c.requires c.index.ensures ∙
    ap (λ (h : Head). Some (shape_of (object_in c.self.inside.row.items h))) c.in-Out.is

pub returns-in-Slots : goal.returns-in-Slots
returns-in-Slots c =
    slots_shape c.self.inside.heads.items c.self.inside.row.items c.args.self.now.objects c.args.id c.index.result.now c.in-Slots.form
    c.in-Slots.class c.in-Slots.from c.in-Slots.len
    (ap (λ (s : Stored). s.objects) c.self.view_is) c.requires c.index.ensures c.self.invariant.1 c.in-Slots.is ∙ ap Some (sym c.slots_shape.ensures)

pub returns-in-Text : goal.returns-in-Text
returns-in-Text c =
    shape_read c.self.inside.heads.items c.self.inside.row.items c.args.self.now.objects c.args.id c.index.result.now (ap (λ (s : Stored). s.objects) c.self.view_is) c.requires c.index.ensures ∙
    (ap (λ (h : Head). Some (shape_of (object_in c.self.inside.row.items h))) c.in-Text.is ∙ ap (λ (n : ℕ). Some (shape.Text n)) (sym c.len.ensures.value))

pub returns-in-Builder : goal.returns-in-Builder
returns-in-Builder c =
    shape_read c.self.inside.heads.items c.self.inside.row.items c.args.self.now.objects c.args.id c.index.result.now (ap (λ (s : Stored). s.objects) c.self.view_is) c.requires c.index.ensures ∙
    (ap (λ (h : Head). Some (shape_of (object_in c.self.inside.row.items h))) c.in-Builder.is ∙ ap (λ (n : ℕ). Some (shape.Builder n)) (sym c.len-in-Builder.ensures.value))

pub returns-in-Constant : goal.returns-in-Constant
returns-in-Constant c =
    shape_read c.self.inside.heads.items c.self.inside.row.items c.args.self.now.objects c.args.id c.index.result.now (ap (λ (s : Stored). s.objects) c.self.view_is) c.requires c.index.ensures ∙
    ap (λ (h : Head). Some (shape_of (object_in c.self.inside.row.items h))) c.in-Constant.is
