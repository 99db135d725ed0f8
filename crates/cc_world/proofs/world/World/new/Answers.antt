use Rattle.std.proofs.Common.{◌≡◌, length, arith}
use Rattle.std.proofs.lemmas.Grind.{common_steps}
use Rattle.cc_world.proofs.Rows.{unnamed}
use Rattle.cc_world.proofs.world.World.new.Goals as goal

pub invariant_of-result : goal.invariant_of-result
invariant_of-result c =
    let none : length c.new-2.result.items ≡ 0 = grind (arith, common_steps, c.new-2.ensures.items) in
    let row : length c.in_ok-places-2.field-0 ≡ c.len-classes.result = grind (arith, common_steps, c.in_ok-places-2.ensures) in
    let held : length c.from_vec.result ≡ c.len-classes.result = grind (arith, common_steps, c.from_vec.ensures, c.in_ok-vec.ensures.items) in (
      omega (arith, none),
      (
        omega (arith, row, held),
        (
          unnamed c.in_ok-places.field-0 c.len.result (length c.in_ok-new.field-0.objects) c.in_ok-places.ensures,
          unnamed c.in_ok-places-2.field-0 c.len-classes.result (length c.in_ok-new.field-0.objects) c.in_ok-places-2.ensures,
        ),
      ),
    )
