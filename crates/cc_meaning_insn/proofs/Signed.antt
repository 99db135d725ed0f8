-- Signed numbers and the bits that spell them.
use Rattle.std.proofs.Common.{◌≡◌, ℕ, zero, suc, ◌-◌, ◌%◌, ◌^◌, ◌<◌, ◌≤◌, inl, inr, ℤ, pos, FitsSigned, to_z, of_z, refl, sym, ap, ◌∙◌, arith}
use Rattle.std.specs.Prelude.{negsuc, neg_ℤ}
use Rattle.std.specs.Int.{Width, int_wrap}
use Rattle.std.proofs.lemmas.Int.{ints, of_z-to_z, int_wrap_fits}
use Rattle.std.proofs.lemmas.Bool.{cases_lt}
use Rattle.std.proofs.lemmas.Bool.Decides.{nat_tests}
use Rattle.std.proofs.Math.Nat.{mod-eq_of_lt}
use mir.Val.{bits}
use mir.ValLaws.{half_full, to_z-Fits}
use Rattle.cc_meaning_insn.specs.Arithmetic.{modulo}
use Rattle.cc_meaning_insn.specs.Forms.{signed_half}
use Rattle.cc_meaning_insn.specs.Spelling.{SpellsSigned, SpellsHalf}

bits_modulo : (w : Width) (z : ℤ) → FitsSigned w z → of_z w z ≡ modulo z (2 ^ bits w)
bits_modulo w (pos n) f = sym (mod-eq_of_lt (half_full w f.sfits))
bits_modulo w (negsuc n) f = let same : n % 2 ^ bits w ≡ n = mod-eq_of_lt (half_full w f.sfits) in omega (arith, same)

-- the number that these bits are read as
pub signed_sound : (w : Width) (n : ℕ) → n < 2 ^ bits w → SpellsSigned w n (to_z w n)
signed_sound w n h =
    let fits : FitsSigned w (to_z w n) = to_z-Fits w n (record { fits = h }) in
    record { fits = fits; as_bits = sym (of_z-to_z w n h) ∙ bits_modulo w (to_z w n) fits }

wrap_is : (w : Width) (z : ℤ) → int_wrap w z ≡ to_z w (modulo z (2 ^ bits w))
unfolding int_wrap
wrap_is w z = refl

-- no other number has these bits
pub signed_only : (w : Width) (n : ℕ) (z : ℤ) → SpellsSigned w n z → z ≡ to_z w n
signed_only w n z s = sym (int_wrap_fits w z s.fits) ∙ wrap_is w z ∙ ap (to_z w) (sym s.as_bits)

half_low : (n : ℕ) → n < 8 → signed_half n ≡ pos n
half_low n h = grind (arith, nat_tests)

half_high : (n : ℕ) → 8 ≤ n → signed_half n ≡ neg_ℤ (pos (16 - n))
half_high n h = grind (arith, nat_tests)

low_modulo : (n : ℕ) → n < 8 → n ≡ modulo (pos n) 16
low_modulo n h = omega arith

high_modulo : (n m : ℕ) → n < 16 → 8 ≤ n → m ≡ 16 - n → n ≡ modulo (neg_ℤ (pos m)) 16
high_modulo n zero h k e = absurd (omega arith)
high_modulo n (suc m) h k e = omega arith

pub half_sound : (n : ℕ) → n < 16 → SpellsHalf n (signed_half n)
half_sound n h = elim (cases_lt n 8) [
  | inl low ↦
      let is = half_low n low in
      record { least = omega (arith, ints, is); below = omega (arith, ints, is); as_bits = low_modulo n low ∙ ap (λ z. modulo z 16) (sym is) }
  | inr high ↦
      let is = half_high n high in
      record { least = omega (arith, ints, is); below = omega (arith, ints, is); as_bits = high_modulo n (16 - n) h high refl ∙ ap (λ z. modulo z 16) (sym is) }
]

pub half_only : (n : ℕ) (z : ℤ) → SpellsHalf n z → z ≡ signed_half n
half_only n (pos m) s =
    let small : m < 8 = omega (arith, ints, s.below) in
    let same : n ≡ m = omega (arith, s.as_bits) in
    ap pos (sym same) ∙ sym (half_low n (omega arith))
half_only n (negsuc m) s =
    let small : m < 8 = omega (arith, ints, s.least) in
    let same : n ≡ 15 - m = omega (arith, s.as_bits) in
    let is = half_high n (omega arith) in
    omega (arith, ints, is)
