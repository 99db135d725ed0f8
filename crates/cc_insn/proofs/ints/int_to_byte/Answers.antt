use Rattle.std.proofs.Common.{◌%◌, FitsSigned, rules, to_z, of_z, sym, ap, ◌∙◌}
use Rattle.std.specs.Int.{w8, w32}
use Rattle.std.proofs.lemmas.Int.{to_z-of_z}
use Rattle.cc_insn.proofs.Values.{low_bits-8, wrap_is}
use Rattle.cc_insn.proofs.ints.int_to_byte.Goals as goal

pub returns : goal.returns
returns c =
    let fits : FitsSigned w32 c.from.result = search rules in
    let narrow : FitsSigned w8 c.cast_signed.result = search rules in
    to_z-of_z w32 c.from.result fits ∙ c.from.ensures ∙ to_z-of_z w8 c.cast_signed.result narrow ∙ c.cast_signed.ensures
    ∙ ap (to_z w8) (ap (λ n. n % 256) c.cast_unsigned.ensures ∙ ap (λ n. of_z w32 n % 256) (to_z-of_z w32 c.args.a c.ranges.a) ∙ low_bits-8 c.args.a c.ranges.a) ∙ sym (wrap_is w8 c.args.a)
