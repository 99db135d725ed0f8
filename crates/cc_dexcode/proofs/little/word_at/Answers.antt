use Rattle.std.proofs.Common.{arith}
use Rattle.cc_dexcode.proofs.Bytes.{little_below, power_four}
use Rattle.cc_dexcode.proofs.little.word_at.Goals as goal

pub overflow_cast-result : goal.overflow_cast-result
overflow_cast-result c =
    let below = little_below c.args.file.now c.args.at c.args.size (λ i. omega (arith, c.type_inv.file i)) in
    record { fits = omega (arith, below, c.unsigned_at.ensures, power_four c.args.size c.requires.few) }

pub returns-clause-small : goal.returns-clause-small
returns-clause-small c =
    let below = little_below c.args.file.now c.args.at c.args.size (λ i. omega (arith, c.type_inv.file i)) in
    omega (arith, below, c.unsigned_at.ensures)
