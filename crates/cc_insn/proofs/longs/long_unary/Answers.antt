use Rattle.std.proofs.Common.{FitsSigned, rules, sym, ap, ◌∙◌}
use Rattle.std.specs.Int.{w64, int_wrapping_neg}
use Rattle.std.proofs.lemmas.Int.{to_z-of_z, wrapping_neg_is}
use Rattle.cc_meaning_insn.specs.Arithmetic.{unary_value}
use Rattle.cc_insn.proofs.longs.long_unary.Goals as goal

pub returns-in-Negate : goal.returns-in-Negate
returns-in-Negate c =
    let fits : FitsSigned w64 c.wrapping_neg.result = search rules in
    to_z-of_z w64 c.wrapping_neg.result fits ∙ c.wrapping_neg.ensures ∙ ap (int_wrapping_neg w64) (to_z-of_z w64 c.args.a c.ranges.a)
    ∙ wrapping_neg_is w64 c.args.a c.ranges.a
    ∙ ap (λ o. unary_value w64 o c.args.a) (sym c.in-Negate.is)
