-- A function of a plain file by itself, instruction by instruction.
use Rattle.std.proofs.Common.{◌≡◌, ℕ, suc, ◌+◌, ◌<◌, ◌≤◌, ℤ, List, [], ◌∷◌, length, drop, Some, None, refl, sym, ap, ◌∙◌, slice_index_or}
use Rattle.std.proofs.lemmas.List.{drop_more}
use Rattle.std.proofs.Math.ListN.{drop_of_length-le}
use Rattle.cc_meaning_run.specs.Acts.{less_by}
use Rattle.cc_meaning_plain.specs.declared.plain.PlainInsn.{PlainInsn}
use Rattle.cc_meaning_plain.specs.declared.plain.PlainInsn.TheVariants.{SgetOut, Const4, AddInt2Addr, AddIntLit8, InvokePrintln, CallFunction}
use Rattle.cc_meaning_plain.specs.declared.plain.PlainCode.{PlainCode}
use Rattle.cc_meaning_plain.specs.Text.{numbers_at_entry, numbers_after, number_returned, value_of, instructions_of}
use Rattle.cc_machine.specs.Given.{Gives}

-- one instruction, and then the rest
pub one_then : (insn : PlainInsn) (rest : List PlainInsn) (numbers : List ℤ) → numbers_after (numbers_after numbers (insn ∷ [])) rest ≡ numbers_after numbers (insn ∷ rest)
unfolding numbers_after
one_then (SgetOut to) rest numbers = refl
one_then (Const4 to value) rest numbers = refl
one_then (AddInt2Addr to other) rest numbers = refl
one_then (AddIntLit8 to from literal) rest numbers = refl
one_then (InvokePrintln stream number) rest numbers = refl
one_then (CallFunction function argument to) rest numbers = refl

pub adds_on : (old new : List ℤ) (insns : List PlainInsn) (i : ℕ) (insn : PlainInsn) (whole : List ℤ) → i < length insns → insn ≡ slice_index_or insns i insn → new ≡ numbers_after old (insn ∷ []) →
    numbers_after old (drop i insns) ≡ whole → numbers_after new (drop (i + 1) insns) ≡ whole
adds_on old new insns i insn whole h is e goes =
    ap (λ (numbers : List ℤ). numbers_after numbers (drop (i + 1) insns)) e ∙ one_then insn (drop (i + 1) insns) old
    ∙ ap (λ (rest : List PlainInsn). numbers_after old rest) (ap (λ (x : PlainInsn). x ∷ drop (i + 1) insns) is ∙ sym (drop_more insns i insn h)) ∙ goes

no_more : (numbers : List ℤ) → numbers ≡ numbers_after numbers []
unfolding numbers_after
no_more numbers = refl

pub adds_to_end : (numbers : List ℤ) (insns : List PlainInsn) (i : ℕ) (whole : List ℤ) → length insns ≤ i → numbers_after numbers (drop i insns) ≡ whole → numbers ≡ whole
adds_to_end numbers insns i whole h goes = no_more numbers ∙ ap (λ (rest : List PlainInsn). numbers_after numbers rest) (sym (drop_of_length-le insns h)) ∙ goes

pub gives_none : (code : PlainCode) (argument : ℤ) (instructions : ℕ) → less_by (suc (length code.insns)) instructions ≡ None → Gives code argument instructions None
unfolding instructions_of
gives_none code argument instructions e = e

pub gives_value : (code : PlainCode) (argument : ℤ) (instructions left : ℕ) (numbers : List ℤ) (value : ℤ) → less_by (suc (length code.insns)) instructions ≡ Some left →
    numbers ≡ numbers_after (numbers_at_entry code argument) code.insns → value ≡ number_returned code.last numbers → Gives code argument instructions (Some (value, left))
unfolding instructions_of value_of
gives_value code argument instructions left numbers value e n v = (v ∙ ap (λ (ns : List ℤ). number_returned code.last ns) n, e)
