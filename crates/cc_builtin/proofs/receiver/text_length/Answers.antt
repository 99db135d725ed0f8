use Rattle.std.proofs.Common.{◌≡◌, ◌<◌, ◌^◌, ◌∙◌, ap, w32, length, arith}
use mir.Val.{to_z}
use Rattle.std.proofs.Math.IntN.{pos}
use Rattle.std.proofs.lemmas.Int.{to_z_pos}
use Rattle.cc_builtin.proofs.Ending.{length_ends, long_ends, no_text_ends}
use Rattle.cc_builtin.proofs.receiver.text_length.Goals as goal

pub returns-then-len : goal.returns-then-len
returns-then-len c =
    let few : length c.in-Some.units.now < 2 ^ 31 = omega (arith, c.if-len.true, c.len.ensures.value) in
    let cast : to_z w32 c.len-then-len.result ≡ pos (length c.in-Some.units.now) = ap (to_z w32) c.len-then-len.ensures.value ∙ to_z_pos w32 (length c.in-Some.units.now) few in
    length_ends c.args.id c.args.world.now c.in-Some.units.now _ c.in-Some.ensures few cast

pub returns-else-len : goal.returns-else-len
returns-else-len c = long_ends c.args.id c.args.world.now _ _ c.in-Some.units.now c.in-Some.ensures (omega (arith, c.if-len.false, c.len.ensures.value))

pub returns-in_default : goal.returns-in_default
returns-in_default c = no_text_ends c.args.id _ c.args.world.now _ _ c.in_default.ensures
