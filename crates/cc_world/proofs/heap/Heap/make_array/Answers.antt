use Rattle.std.proofs.Common.{◌≡◌, ◌+◌, ◌++◌, ◌∷◌, [], List, length, replicate, ap, sym, ◌∙◌, arith}
use Rattle.std.proofs.lemmas.List.{length-replicate}
use Rattle.cc_world.specs.declared.heap.Form.TheVariants as form
use Rattle.cc_world.specs.declared.heap.Head.{Head}
use Rattle.cc_world.specs.declared.heap.Head.TheVariants as head
use Rattle.cc_world.specs.Flat.{Stored}
use Rattle.cc_world.proofs.Heaps.{pushed_slots, slots_pushed, resized}
use Rattle.cc_world.proofs.heap.Heap.make_array.Goals as goal

pub invariant_of-self-2 : goal.invariant_of-self-2
invariant_of-self-2 c =
    let starts : c.len-from.result ≡ length c.self.inside.row.items = c.len-from.ensures ∙ c.self.inside.row.ok.0 in
    let ends : c.in-Some.end ≡ length c.self.inside.row.items + c.args.len = omega (arith, c.in-Some.ensures, starts) in
    pushed_slots c.self.inside.heads.items c.push_reserved.new.self.items c.self.inside.row.items c.resize.new.self.items (replicate c.args.len c.args.value) c.args.self.now.objects
    form.Array c.args.class c.len-from.result c.args.len
    (ap (λ (s : Stored). s.objects) c.self.view_is)
    (c.push_reserved.ensures.items ∙ ap (λ (hs : List Head). hs ++ head.Slots form.Array c.args.class c.len-from.result c.args.len ∷ []) c.in_ok-reserve.ensures.items)
    (resized c.self.inside.row.items c.resize.new.self.items c.in-Some.end c.self.inside.row.len c.args.len c.args.value ends c.self.inside.row.ok.0 c.in_ok-resize.ensures.items)
    c.requires c.self.invariant.1 starts (sym (length-replicate c.args.len c.args.value)) (omega (arith, c.ranges.len.fits))

pub returns-clause-ok : goal.returns-clause-ok
returns-clause-ok c =
    let starts : c.len-from.result ≡ length c.self.inside.row.items = c.len-from.ensures ∙ c.self.inside.row.ok.0 in
    let ends : c.in-Some.end ≡ length c.self.inside.row.items + c.args.len = omega (arith, c.in-Some.ensures, starts) in
    slots_pushed c.self.inside.heads.items c.push_reserved.new.self.items c.self.inside.row.items c.resize.new.self.items (replicate c.args.len c.args.value) c.args.self.now.objects
    form.Array c.args.class c.len-from.result c.args.len
    (ap (λ (s : Stored). s.objects) c.self.view_is)
    (c.push_reserved.ensures.items ∙ ap (λ (hs : List Head). hs ++ head.Slots form.Array c.args.class c.len-from.result c.args.len ∷ []) c.in_ok-reserve.ensures.items)
    (resized c.self.inside.row.items c.resize.new.self.items c.in-Some.end c.self.inside.row.len c.args.len c.args.value ends c.self.inside.row.ok.0 c.in_ok-resize.ensures.items)
    c.self.invariant.1 starts (sym (length-replicate c.args.len c.args.value))
