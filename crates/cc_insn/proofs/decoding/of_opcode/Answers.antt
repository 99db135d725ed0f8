use Rattle.std.proofs.Common.{◌≡◌, false, length, get_or, Err, sym, ap, ◌∙◌, arith}
use Rattle.std.specs.Prelude.{nat_lt}
use Rattle.std.proofs.lemmas.Bool.Decides.{nat_tests}
use Rattle.std.proofs.lemmas.Result.{err_from_is_err_and}
use Rattle.cc_meaning_insn.specs.declared.forms.Opcode.TheVariants as opcode
use Rattle.cc_meaning_insn.specs.Forms.{high_byte, high_half}
use Rattle.cc_meaning_insn.specs.Decoded.{of_opcode}
use Rattle.cc_insn.proofs.Fronts.{gives_memory, gives_same, listed_is_list, ranged_is_list}
use Rattle.cc_insn.proofs.decoding.of_opcode.Goals as goal
use Rattle.cc_insn.proofs.decoding.of_opcode.Goals.{in_default-via-in-Listed+else-high-gt-MOST_LISTED, in_default-via-in-Three-1}

pub returns-in_err-ranged_units-in-Ranged : goal.returns-in_err-ranged_units-in-Ranged
returns-in_err-ranged_units-in-Ranged c =
    let p = err_from_is_err_and c.from_residual-in_err-ranged_units-in-Ranged.result c.from_residual-in_err-ranged_units-in-Ranged.ensures.1 in
    let there : nat_lt (length c.args.units.now) 3 ≡ false = grind (arith, nat_tests) in
    gives_same _ (of_opcode (opcode.Ranged c.in-Ranged.form) c.args.units.now) _ (ap (λ o. of_opcode o c.args.units.now) (sym c.in-Ranged.is))
    (gives_memory _ _ (p.1 ∙ ap Err p.2) (ranged_is_list c.in-Ranged.form c.args.units.now there))

pub returns-in_err-listed_units-in-Listed-2 : goal.returns-in_err-listed_units-in-Listed-2
returns-in_err-listed_units-in-Listed-2 c =
    let p = err_from_is_err_and c.from_residual.result c.from_residual.ensures.1 in
    let there : nat_lt (length c.args.units.now) 3 ≡ false = grind (arith, nat_tests) in
    let few : nat_lt 5 (high_half (high_byte (get_or c.args.units.now 0 0))) ≡ false =
    elim c.in_default.branch [ in_default-via-in-Listed+else-high-gt-MOST_LISTED w ↦ grind (arith, nat_tests) | in_default-via-in-Three-1 w ↦ grind (arith, nat_tests) ] in
    gives_same _ (of_opcode (opcode.Listed c.in-Listed-2.form) c.args.units.now) _ (ap (λ o. of_opcode o c.args.units.now) (sym c.in-Listed-2.is))
    (gives_memory _ _ (p.1 ∙ ap Err p.2) (listed_is_list c.in-Listed-2.form c.args.units.now few there))
