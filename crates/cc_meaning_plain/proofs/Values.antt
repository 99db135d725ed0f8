-- The numbers that a plain file's instructions come to have 32 bits.
use Rattle.std.proofs.Common.{ℕ, zero, suc, ◌-◌, ℤ, pos, List, [], ◌∷◌, ◌++◌, replicate, arith, slice_set}
use Rattle.cc_meaning_plain.specs.declared.plain.PlainInsn.{PlainInsn}
use Rattle.cc_meaning_plain.specs.declared.plain.PlainInsn.TheVariants.{SgetOut, Const4, AddInt2Addr, AddIntLit8, InvokePrintln, CallFunction}
use Rattle.cc_meaning_plain.specs.declared.plain.Last.{Last}
use Rattle.cc_meaning_plain.specs.declared.plain.Last.TheVariants.{ReturnVoid, Return}
use Rattle.cc_meaning_plain.specs.declared.plain.PlainCode.{PlainCode}
use Rattle.cc_meaning_plain.specs.Text.{number_at, numbers_at_entry, numbers_after, number_returned, value_of}
use Rattle.cc_meaning_plain.proofs.Running.{Fits32, sum_fits}
use Rattle.cc_meaning_plain.proofs.Facts.{AllAdd}

-- each number has 32 bits
abbrev pub AllFit : List ℤ → Type 0
AllFit [] = Unit {0}
AllFit (n ∷ ns) = Fits32 n × AllFit ns

zero_fits : Fits32 (pos 0)
zero_fits = omega arith

pub zeros_fit : (n : ℕ) → AllFit (replicate n (pos 0))
zeros_fit zero = tt
zeros_fit (suc n) = (zero_fits, zeros_fit n)

pub fits_at : (ns : List ℤ) (r : ℕ) → AllFit ns → Fits32 (number_at ns r)
fits_at [] r h = zero_fits
fits_at (n ∷ ns) zero h = h.0
fits_at (n ∷ ns) (suc r) h = fits_at ns r h.1

pub fits_set : (ns : List ℤ) (r : ℕ) (n : ℤ) → Fits32 n → AllFit ns → AllFit (slice_set ns r n)
fits_set [] r n f h = tt
fits_set (m ∷ ns) zero n f h = (f, h.1)
fits_set (m ∷ ns) (suc r) n f h = (h.0, fits_set ns r n f h.1)

fits_after : (insns : List PlainInsn) (ns : List ℤ) → AllAdd insns → AllFit ns → AllFit (numbers_after ns insns)
unfolding numbers_after
fits_after [] ns adds h = h
fits_after (SgetOut to ∷ rest) ns adds h = absurd adds.0
fits_after (Const4 to v ∷ rest) ns adds h = fits_after rest (slice_set ns to v) adds.1 (fits_set ns to v adds.0 h)
fits_after (AddInt2Addr to other ∷ rest) ns adds h = fits_after rest _ adds.1 (fits_set ns to _ (sum_fits _ _ (fits_at ns to h) (fits_at ns other h)) h)
fits_after (AddIntLit8 to from literal ∷ rest) ns adds h = fits_after rest _ adds.1 (fits_set ns to _ (sum_fits _ _ (fits_at ns from h) adds.0) h)
fits_after (InvokePrintln receiver from ∷ rest) ns adds h = absurd adds.0
fits_after (CallFunction function argument to ∷ rest) ns adds h = absurd adds.0

fits_at_entry : (unset : ℕ) (argument : ℤ) → Fits32 argument → AllFit (replicate unset (pos 0) ++ argument ∷ [])
fits_at_entry zero argument f = (f, tt)
fits_at_entry (suc n) argument f = (zero_fits, fits_at_entry n argument f)

returned_fits : (last : Last) (ns : List ℤ) → AllFit ns → Fits32 (number_returned last ns)
returned_fits ReturnVoid ns h = zero_fits
returned_fits (Return from) ns h = fits_at ns from h

-- what a function gives has 32 bits
pub value_fits : (code : PlainCode) (argument : ℤ) → AllAdd code.insns → Fits32 argument → Fits32 (value_of code argument)
unfolding value_of
value_fits code argument adds f = returned_fits code.last _ (fits_after code.insns (numbers_at_entry code argument) adds (fits_at_entry (code.registers - 1) argument f))
