use Rattle.std.proofs.Common.{◌≡◌, ◌<◌, length, ap, arith}
use Rattle.cc_meaning_run.specs.Acts.{with_words}
use Rattle.cc_heap.specs.Effects.{Held}
use Rattle.cc_builtin.proofs.Effecting.{builder_stands}
use Rattle.cc_builtin.proofs.steps.append.Goals as goal

pub put-requires : goal.put-requires
unfolding with_words
put-requires c =
    let stands : c.args.id < length c.args.world.now.world.objects = builder_stands c.args.world.now.world.objects c.args.id _ c.in-Some.ensures in
    let same : length c.spend_words.new.self.world.objects ≡ length c.args.world.now.world.objects = ap (λ (h : Held). length h.world.objects) c.spend_words.ensures.rest in
    omega (arith, stands, same)
