use Rattle.std.proofs.Common.{◌≡◌, to_z, of_z, w32, w64, sym, subst, ◌∙◌, arith, ℤ}
use Rattle.std.proofs.lemmas.Int.{ints}
use Rattle.cc_meaning_dex.specs.Leb128.{FitsI32}
use Rattle.cc_meaning_dex.specs.Values.{little_at}
use Rattle.cc_dexcode.proofs.Bytes.{little_below, word_range}
use Rattle.cc_dexcode.proofs.little.signed_word_at.Goals as goal

pub overflow_cast-result : goal.overflow_cast-result
overflow_cast-result c =
    let below = little_below c.args.file.now c.args.at c.args.size (λ i. omega (arith, c.type_inv.file i)) in
    let range = word_range c.args.size (little_at c.args.file.now c.args.at c.args.size) c.requires.some c.requires.few below in
    let fits : FitsI32 c.signed_at.result = subst (λ (z : ℤ). FitsI32 z) (sym c.signed_at.ensures) range in
    omega (arith, ints, fits.0, fits.1)

pub returns : goal.returns
returns c =
    let below = little_below c.args.file.now c.args.at c.args.size (λ i. omega (arith, c.type_inv.file i)) in
    let range = word_range c.args.size (little_at c.args.file.now c.args.at c.args.size) c.requires.some c.requires.few below in
    let fits : FitsI32 c.signed_at.result = subst (λ (z : ℤ). FitsI32 z) (sym c.signed_at.ensures) range in
    let same : to_z w32 (of_z w32 (to_z w64 (of_z w64 c.signed_at.result))) ≡ c.signed_at.result = omega (arith, ints, fits.0, fits.1) in
    same ∙ c.signed_at.ensures
