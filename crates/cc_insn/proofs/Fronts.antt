-- What stands in front of units, by the first one.
use Rattle.std.proofs.Common.{◌≡◌, ◌≢◌, ℕ, ◌%◌, ◌<◌, ◌≤◌, false, List, [], ◌∷◌, length, drop, get_or, Result, Err, refl, sym, ap, ◌∙◌, subst, arith}
use Rattle.std.specs.Prelude.{nat_lt}
use Rattle.std.proofs.lemmas.List.{drop_all}
use Rattle.std.proofs.lemmas.Bool.Decides.{nat_tests}
use Rattle.cc_meaning.specs.declared.instruction.Insn.{Insn}
use Rattle.cc_meaning.specs.declared.fault.InsnFault.{InsnFault}
use Rattle.cc_meaning.specs.declared.fault.InsnFault.TheVariants.{CutOff, Memory}
use Rattle.cc_meaning_insn.specs.declared.forms.Listed.{Listed}
use Rattle.cc_meaning_insn.specs.declared.forms.Listed.TheVariants.{FilledNewArray, Invoke}
use Rattle.cc_meaning_insn.specs.declared.forms.Opcode.TheVariants as opcode
use Rattle.cc_meaning_insn.specs.Opcodes.{opcode_at}
use Rattle.cc_meaning_insn.specs.Forms.{high_byte, high_half, listed_units, ranged_units}
use Rattle.cc_meaning_insn.specs.Payloads.{packed_payload, sparse_payload, array_payload}
use Rattle.cc_meaning_insn.specs.Decoded.{HoldsList, of_opcode, front_of, decoded}
use Rattle.cc_insn.specs.Gives.{IsOfList, Gives}

-- want of memory is an answer where a list is to be made
pub gives_memory : (result due : Result (Insn × ℕ) InsnFault) → result ≡ Err Memory → IsOfList due → Gives result due
gives_memory result due e h = let P : Result (Insn × ℕ) InsnFault → Type 0 = λ r. Gives r due in subst P (sym e) h

-- an answer to what is due is one to what equals it
pub gives_same : (result due other : Result (Insn × ℕ) InsnFault) → due ≡ other → Gives result due → Gives result other
gives_same result due other e h = let P : Result (Insn × ℕ) InsnFault → Type 0 = λ d. Gives result d in subst P e h

listed_holds : (form : Listed) (h b c : ℕ) → HoldsList (listed_units form h b c)
unfolding listed_units
listed_holds FilledNewArray h b c = tt
listed_holds (Invoke how) h b c = tt

ranged_holds : (form : Listed) (h b c : ℕ) → HoldsList (ranged_units form h b c)
unfolding ranged_units
ranged_holds FilledNewArray h b c = tt
ranged_holds (Invoke how) h b c = tt

pub listed_is_list : (form : Listed) (units : List ℕ) → nat_lt 5 (high_half (high_byte (get_or units 0 0))) ≡ false → nat_lt (length units) 3 ≡ false →
    IsOfList (of_opcode (opcode.Listed form) units)
unfolding of_opcode
listed_is_list form units few there = rw (few, there) (listed_holds form (high_byte (get_or units 0 0)) (get_or units 1 0) (get_or units 2 0))

pub ranged_is_list : (form : Listed) (units : List ℕ) → nat_lt (length units) 3 ≡ false → IsOfList (of_opcode (opcode.Ranged form) units)
unfolding of_opcode
ranged_is_list form units there = rw there (ranged_holds form (high_byte (get_or units 0 0)) (get_or units 1 0) (get_or units 2 0))

front_nil : front_of [] ≡ Err CutOff
unfolding front_of
front_nil = refl

pub decoded-past : (units : List ℕ) (at : ℕ) → length units ≤ at → decoded units at ≡ Err CutOff
unfolding decoded
decoded-past units at h = ap front_of (drop_all at units h) ∙ front_nil

pub decoded-front : (units rest : List ℕ) (at : ℕ) → rest ≡ drop at units → front_of rest ≡ decoded units at
unfolding decoded
decoded-front units rest at e = ap front_of e

pub front_of-packed : (units : List ℕ) → 0 < length units → get_or units 0 0 ≡ 256 → packed_payload units ≡ front_of units
unfolding front_of
front_of-packed [] some e = absurd (omega arith)
front_of-packed (first ∷ rest) some e = grind (arith, nat_tests)

pub front_of-sparse : (units : List ℕ) → 0 < length units → get_or units 0 0 ≡ 512 → sparse_payload units ≡ front_of units
unfolding front_of
front_of-sparse [] some e = absurd (omega arith)
front_of-sparse (first ∷ rest) some e = grind (arith, nat_tests)

pub front_of-array : (units : List ℕ) → 0 < length units → get_or units 0 0 ≡ 768 → array_payload units ≡ front_of units
unfolding front_of
front_of-array [] some e = absurd (omega arith)
front_of-array (first ∷ rest) some e = grind (arith, nat_tests)

pub front_of-opcode : (units : List ℕ) → 0 < length units → get_or units 0 0 ≢ 256 → get_or units 0 0 ≢ 512 → get_or units 0 0 ≢ 768 →
    of_opcode (opcode_at (get_or units 0 0 % 256)) units ≡ front_of units
unfolding front_of
front_of-opcode [] some a b c = absurd (omega arith)
front_of-opcode (first ∷ rest) some a b c = grind (arith, nat_tests)
