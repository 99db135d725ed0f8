use Rattle.std.proofs.Common.{◌^◌, FitsSigned, rules, to_z, sym, ap, ◌∙◌}
use Rattle.std.specs.Int.{w32, w64}
use Rattle.std.proofs.lemmas.Int.{to_z-of_z}
use Rattle.cc_meaning_insn.specs.Arithmetic.{modulo}
use Rattle.cc_insn.proofs.Values.{wrap_is}
use Rattle.cc_insn.proofs.longs.long_to_int.Goals as goal

pub returns : goal.returns
returns c =
    let fits : FitsSigned w32 c.cast_signed.result = search rules in
    to_z-of_z w32 c.cast_signed.result fits ∙ c.cast_signed.ensures ∙ ap (to_z w32) (c.low_bits.ensures ∙ ap (λ n. modulo n (2 ^ 32)) (to_z-of_z w64 c.args.a c.ranges.a)) ∙ sym (wrap_is w32 c.args.a)
