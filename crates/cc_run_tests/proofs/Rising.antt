-- One method alone stands in order.
use Rattle.std.proofs.Common.{◌≡◌, length, arith}
use Rattle.cc_meaning.specs.declared.program.Program.{Program}
use Rattle.cc_meaning.specs.Order.{MethodsRise}

pub one_rises : (p : Program) → length p.methods ≡ 1 → MethodsRise p
one_rises p one i j d below within = absurd (omega (arith, one, below, within))
