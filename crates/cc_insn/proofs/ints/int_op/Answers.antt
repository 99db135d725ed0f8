use Rattle.std.proofs.Common.{◌≡◌, ◌/◌, ◌%◌, ◌^◌, FitsSigned, rules, to_z, of_z, sym, ap, ◌∙◌, arith}
use Rattle.std.specs.Int.{w32, int_shl, int_wrapping_div}
use Rattle.std.proofs.lemmas.Int.{to_z-of_z, wrapping_add_is, wrapping_sub_is}
use Rattle.cc_meaning_insn.specs.Arithmetic.{op_value, modulo}
use Rattle.cc_insn.proofs.Values.{bits_modulo-32, low_bits-32, shl_is, div_is-32, ushr_is-32}
use Rattle.cc_insn.proofs.ints.int_op.Goals as goal

pub returns-in-Add-clause-value : goal.returns-in-Add-clause-value
returns-in-Add-clause-value c =
    wrapping_add_is w32 c.args.a c.args.b c.ranges.a c.ranges.b ∙ ap (λ o. op_value w32 o c.args.a c.args.b) (sym c.in-Add.is)

pub returns-in-Sub-clause-value : goal.returns-in-Sub-clause-value
returns-in-Sub-clause-value c =
    wrapping_sub_is w32 c.args.a c.args.b c.ranges.a c.ranges.b ∙ ap (λ o. op_value w32 o c.args.a c.args.b) (sym c.in-Sub.is)

pub returns-in-Div-2-clause-value : goal.returns-in-Div-2-clause-value
returns-in-Div-2-clause-value c =
    let fits : FitsSigned w32 c.wrapping_div.result = search rules in
    to_z-of_z w32 c.wrapping_div.result fits ∙ c.wrapping_div.ensures
    ∙ (λ i. int_wrapping_div w32 (to_z-of_z w32 c.args.a c.ranges.a i) (to_z-of_z w32 c.args.b c.ranges.b i)) ∙ div_is-32 c.args.a c.args.b c.ranges.a
    ∙ ap (λ o. op_value w32 o c.args.a c.args.b) (sym c.in-Div-2.is)

pub returns-in-Shl-clause-value : goal.returns-in-Shl-clause-value
returns-in-Shl-clause-value c =
    let fits : FitsSigned w32 c.wrapping_shl.result = search rules in
    let count : c.cast_unsigned.result % 32 ≡ modulo c.args.b 32 = ap (λ n. n % 32) c.cast_unsigned.ensures ∙ ap (λ n. of_z w32 n % 32) (to_z-of_z w32 c.args.b c.ranges.b) ∙ low_bits-32 c.args.b c.ranges.b in
    to_z-of_z w32 c.wrapping_shl.result fits ∙ c.wrapping_shl.ensures ∙ ap (λ n. int_shl w32 n (c.cast_unsigned.result % 32)) (to_z-of_z w32 c.args.a c.ranges.a) ∙ ap (int_shl w32 c.args.a) count
    ∙ shl_is w32 c.args.a (modulo c.args.b 32) c.ranges.a (omega (arith, count))
    ∙ ap (λ o. op_value w32 o c.args.a c.args.b) (sym c.in-Shl.is)

pub returns-in-Ushr-clause-value : goal.returns-in-Ushr-clause-value
returns-in-Ushr-clause-value c =
    let fits : FitsSigned w32 c.cast_signed.result = search rules in
    let count : c.cast_unsigned-in-Ushr-2.result % 32 ≡ modulo c.args.b 32 = ap (λ n. n % 32) c.cast_unsigned-in-Ushr-2.ensures ∙ ap (λ n. of_z w32 n % 32) (to_z-of_z w32 c.args.b c.ranges.b) ∙ low_bits-32 c.args.b c.ranges.b in
    let bits : c.cast_unsigned-in-Ushr.result ≡ modulo c.args.a (2 ^ 32) = c.cast_unsigned-in-Ushr.ensures ∙ ap (of_z w32) (to_z-of_z w32 c.args.a c.ranges.a) ∙ bits_modulo-32 c.args.a c.ranges.a in
    to_z-of_z w32 c.cast_signed.result fits ∙ c.cast_signed.ensures ∙ ap (to_z w32) (c.wrapping_shr-in-Ushr.ensures ∙ (λ i. bits i / 2 ^ count i))
    ∙ ushr_is-32 c.args.a (2 ^ modulo c.args.b 32)
    ∙ ap (λ o. op_value w32 o c.args.a c.args.b) (sym c.in-Ushr.is)
