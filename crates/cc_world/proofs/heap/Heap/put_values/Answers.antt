use Rattle.std.proofs.Common.{◌≡◌, ◌++◌, ap, ◌∙◌, arith}
use Rattle.std.proofs.lemmas.Grind.{common_steps}
use Rattle.cc_world.specs.Flat.{Stored}
use Rattle.cc_world.proofs.Heaps.{pushed_slots}
use Rattle.cc_world.proofs.heap.Heap.put_values.Goals as goal

pub invariant_of-self-2 : goal.invariant_of-self-2
invariant_of-self-2 c =
    let more : c.append.new.self.items ≡ c.self.inside.row.items ++ c.args.values = grind (arith, common_steps, c.append.ensures.items, c.if-is_err.ensures, c.into_vec-values.ensures) in
    pushed_slots c.self.inside.heads.items c.push_reserved.new.self.items c.self.inside.row.items c.append.new.self.items c.args.values c.args.self.now.objects
    c.args.form c.args.class c.len-from.result c.len-len.result
    (ap (λ (s : Stored). s.objects) c.self.view_is) c.push_reserved.ensures.items more c.requires.few c.self.invariant.1
    (c.len-from.ensures ∙ c.self.inside.row.ok.0) c.len-len.ensures.value (omega (arith, c.requires.short))
