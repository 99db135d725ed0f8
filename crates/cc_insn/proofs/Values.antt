-- What the machine's operations on ints and longs come to, over whole numbers.
use Rattle.std.proofs.Common.{◌≡◌, ℕ, suc, ◌+◌, ◌-◌, ◌/◌, ◌%◌, ◌^◌, ◌<◌, ◌≤◌, ℤ, pos, ◌*ℤ◌, FitsSigned, to_z, of_z, refl, sym, ap, ◌∙◌, zero, arith}
use Rattle.std.specs.Prelude.{negsuc, neg_ℤ}
use Rattle.std.specs.Int.{Width, w32, w64, int_wrap, int_shl, int_wrapping_div}
use Rattle.std.specs.Int.RustNames.{int_div}
use Rattle.std.proofs.lemmas.Int.{to_z-of_z, wrapping_mul-bits, int_wrap-mul_right}
use Rattle.cc_meaning_insn.specs.Arithmetic.{modulo}
use Rattle.std.proofs.Math.Pow.{pow-lt}
use Rattle.std.proofs.Math.Nat.{mod-eq_of_lt, div-le_self, lt_of_le_of_lt}
use mir.Val.{bits}
use mir.ValLaws.{of_z_fits}
use lib.Signed.{mag}

-- the bits of a number that fits are the number modulo the width's power of two
pub bits_modulo-32 : (a : ℤ) → FitsSigned w32 a → of_z w32 a ≡ modulo a (2 ^ 32)
bits_modulo-32 (pos n) f = let small : n < 2 ^ 31 = f.sfits in omega arith
bits_modulo-32 (negsuc n) f = let small : n < 2 ^ 31 = f.sfits in omega arith

pub bits_modulo-64 : (a : ℤ) → FitsSigned w64 a → of_z w64 a ≡ modulo a (2 ^ 64)
bits_modulo-64 (pos n) f = let small : n < 2 ^ 63 = f.sfits in omega arith
bits_modulo-64 (negsuc n) f = let small : n < 2 ^ 63 = f.sfits in omega arith

-- the low bits of these
pub low_bits-32 : (a : ℤ) → FitsSigned w32 a → of_z w32 a % 32 ≡ modulo a 32
low_bits-32 (pos n) f = refl
low_bits-32 (negsuc n) f = let small : n < 2 ^ 31 = f.sfits in omega arith

pub low_bits-8 : (a : ℤ) → FitsSigned w32 a → of_z w32 a % 256 ≡ modulo a 256
low_bits-8 (pos n) f = refl
low_bits-8 (negsuc n) f = let small : n < 2 ^ 31 = f.sfits in omega arith

pub low_bits-16 : (a : ℤ) → FitsSigned w32 a → of_z w32 a % 65536 ≡ modulo a 65536
low_bits-16 (pos n) f = refl
low_bits-16 (negsuc n) f = let small : n < 2 ^ 31 = f.sfits in omega arith

pub low_bits-of_long : (a : ℤ) → FitsSigned w64 a → of_z w64 a % 2 ^ 32 ≡ modulo a (2 ^ 32)
low_bits-of_long (pos n) f = refl
low_bits-of_long (negsuc n) f = let small : n < 2 ^ 63 = f.sfits in omega arith

pub low_bits-64 : (a : ℤ) → modulo a (2 ^ 32) % 64 ≡ modulo a 64
low_bits-64 (pos n) = omega arith
low_bits-64 (negsuc n) = omega arith

-- what is left of a natural number is the number of its low bits
pub wrap_pos : (w : Width) (n : ℕ) → int_wrap w (pos n) ≡ to_z w (n % 2 ^ bits w)
unfolding int_wrap
wrap_pos w n = refl

pub wrap_is : (w : Width) (a : ℤ) → int_wrap w a ≡ to_z w (modulo a (2 ^ bits w))
unfolding int_wrap
wrap_is w a = refl

fits_modulo : (w : Width) (a : ℤ) → FitsSigned w a → of_z w a < 2 ^ bits w
fits_modulo w a f = (of_z_fits w a f).fits

-- a shift to the left multiplies by a power of two
pub shl_is : (w : Width) (a : ℤ) (k : ℕ) → FitsSigned w a → k < bits w → int_shl w a k ≡ int_wrap w (a *ℤ pos (2 ^ k))
shl_is w a k f h =
    let small : 2 ^ k < 2 ^ bits w = pow-lt h in
    let power : to_z w (2 ^ k) ≡ int_wrap w (pos (2 ^ k)) = sym (wrap_pos w (2 ^ k) ∙ ap (to_z w) (mod-eq_of_lt small)) in
    wrapping_mul-bits w (of_z w a) (2 ^ k) (fits_modulo w a f) small
    ∙ (λ i. int_wrap w (to_z-of_z w a f i *ℤ power i))
    ∙ int_wrap-mul_right w a (pos (2 ^ k))

-- a quotient has at most the size of what is divided
pub quotient_small : (a b : ℤ) (size : ℕ) → mag a < size → mag (int_div a b) < size + 1
quotient_small (pos a) (pos b) size h = omega (arith, div-le_self a b)
quotient_small (pos a) (negsuc b) size h = negative (a / suc b) size (omega (arith, div-le_self a (suc b)))
  where
    negative : (n size : ℕ) → n ≤ size → mag (neg_ℤ (pos n)) < size + 1
    negative zero size h = omega arith
    negative (suc n) size h = omega arith
quotient_small (negsuc a) (pos b) size h = negative (suc a / b) size (omega (arith, div-le_self (suc a) b))
  where
    negative : (n size : ℕ) → n ≤ size → mag (neg_ℤ (pos n)) < size + 1
    negative zero size h = omega arith
    negative (suc n) size h = omega arith
quotient_small (negsuc a) (negsuc b) size h = omega (arith, div-le_self (suc a) (suc b))

-- what is cast to the width and back is what is left of it
cast_is-32 : (z : ℤ) → mag z < 2 ^ 31 + 1 → to_z w32 (of_z w32 z) ≡ int_wrap w32 z
cast_is-32 (pos n) h = sym (wrap_is w32 (pos n) ∙ ap (to_z w32) (omega arith))
cast_is-32 (negsuc n) h = sym (wrap_is w32 (negsuc n) ∙ ap (to_z w32) (omega arith))

cast_is-64 : (z : ℤ) → mag z < 2 ^ 63 + 1 → to_z w64 (of_z w64 z) ≡ int_wrap w64 z
cast_is-64 (pos n) h = sym (wrap_is w64 (pos n) ∙ ap (to_z w64) (omega arith))
cast_is-64 (negsuc n) h = sym (wrap_is w64 (negsuc n) ∙ ap (to_z w64) (omega arith))

pub div_is-32 : (a b : ℤ) → FitsSigned w32 a → int_wrapping_div w32 a b ≡ int_wrap w32 (int_div a b)
div_is-32 a b f = cast_is-32 (int_div a b) (quotient_small a b (2 ^ 31) f.sfits)

pub div_is-64 : (a b : ℤ) → FitsSigned w64 a → int_wrapping_div w64 a b ≡ int_wrap w64 (int_div a b)
div_is-64 a b f = cast_is-64 (int_div a b) (quotient_small a b (2 ^ 63) f.sfits)

-- the number without a sign, divided
ushr_is : (w : Width) (n size : ℕ) → n < 2 ^ bits w → to_z w (n / size) ≡ int_wrap w (pos (n / size))
ushr_is w n size h = sym (wrap_pos w (n / size) ∙ ap (to_z w) (mod-eq_of_lt (lt_of_le_of_lt (div-le_self n size) h)))

pub ushr_is-32 : (a : ℤ) (size : ℕ) → to_z w32 (modulo a (2 ^ 32) / size) ≡ int_wrap w32 (pos (modulo a (2 ^ 32) / size))
ushr_is-32 (pos n) size = ushr_is w32 (n % 2 ^ 32) size (omega arith)
ushr_is-32 (negsuc n) size = ushr_is w32 (2 ^ 32 - 1 - n % 2 ^ 32) size (omega arith)

pub ushr_is-64 : (a : ℤ) (size : ℕ) → to_z w64 (modulo a (2 ^ 64) / size) ≡ int_wrap w64 (pos (modulo a (2 ^ 64) / size))
ushr_is-64 (pos n) size = ushr_is w64 (n % 2 ^ 64) size (omega arith)
ushr_is-64 (negsuc n) size = ushr_is w64 (2 ^ 64 - 1 - n % 2 ^ 64) size (omega arith)
