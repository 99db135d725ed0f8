-- Bytes of numbers, and numbers modulo 2 ^ 16.
use Rattle.std.proofs.Common.{◌≡◌, ℕ, zero, suc, Bool, false, cond, nat_lt, ◌-◌, ◌*◌, ◌/◌, ◌%◌, ◌^◌, ◌<◌, List, [], ◌∷◌, refl, ap, sym, ◌∙◌, arith}
use Rattle.std.specs.Int.{w8, w16, w32, w64, bytes_low_first, to_le_bytes, cast_unsigned}
use Rattle.std.specs.Prelude.{ℤ, pos, negsuc}
use mir.Val.{SFits}
use Rattle.std.proofs.lemmas.Bool.{le-ltb}
use Rattle.std.proofs.Math.Nat.{pow-suc, div-div-eq-div-mul}
use Rattle.cc_meaning_builder.specs.Forms.{little_form, signed_form, u16_form, u32_form, wrapped}

pair : (a b c d : ℕ) → a ≡ c → b ≡ d → a ∷ b ∷ [] ≡ c ∷ d ∷ []
pair a b c d p q = cc

-- the low 16 bits of a number have its low bytes
pub low_form : (n : ℕ) → u16_form (n % 65536) ≡ u16_form n
unfolding little_form
low_form n = pair _ _ _ _ (omega arith) (omega arith)

never : (n : ℕ) → nat_lt n 0 ≡ false
never n = le-ltb n 0 (omega arith)

-- the bits of a signed number are its remainder
wrapped_1 : (z : ℤ) → cast_unsigned w8 z ≡ wrapped 1 z
wrapped_1 (pos n) = ap (λ (b : Bool). cond b (256 - n) n) (sym (never n))
wrapped_1 (negsuc n) = refl

wrapped_2 : (z : ℤ) → cast_unsigned w16 z ≡ wrapped 2 z
wrapped_2 (pos n) = ap (λ (b : Bool). cond b (65536 - n) n) (sym (never n))
wrapped_2 (negsuc n) = refl

wrapped_4 : (z : ℤ) → cast_unsigned w32 z ≡ wrapped 4 z
wrapped_4 (pos n) = ap (λ (b : Bool). cond b (4294967296 - n) n) (sym (never n))
wrapped_4 (negsuc n) = refl

wrapped_8 : (z : ℤ) → cast_unsigned w64 z ≡ wrapped 8 z
wrapped_8 (pos n) = ap (λ (b : Bool). cond b (18446744073709551616 - n) n) (sym (never n))
wrapped_8 (negsuc n) = refl

-- bytes from the second on
later_bytes : (i k n : ℕ) → bytes_low_first (suc i) k n ≡ little_form k (n / 256 ^ suc i)
unfolding little_form
later_bytes i zero n = refl
later_bytes i (suc k) n =
    let power : 256 ^ suc (suc i) ≡ 256 ^ suc i * 256 = omega (arith, pow-suc 256 (suc i)) in
    let quotient : n / 256 ^ suc (suc i) ≡ n / 256 ^ suc i / 256 = ap (λ (m : ℕ). n / m) power ∙ sym (div-div-eq-div-mul n (256 ^ suc i) 256) in
    ap (λ (l : List ℕ). n / 256 ^ suc i % 256 ∷ l) (later_bytes (suc i) k n ∙ ap (little_form k) quotient)

-- the lowest bytes of a number are its form
lowest_bytes : (k n : ℕ) → bytes_low_first 0 k n ≡ little_form k n
unfolding little_form
lowest_bytes zero n = refl
lowest_bytes (suc k) n = ap (λ (l : List ℕ). n % 256 ∷ l) (later_bytes 0 k n)

pub row_bytes : (n : ℕ) → to_le_bytes w32 n ≡ u32_form n
row_bytes n = lowest_bytes 4 n

pub unit_bytes : (n : ℕ) → to_le_bytes w16 n ≡ u16_form n
unit_bytes n = lowest_bytes 2 n

-- the bytes of signed numbers
small_byte : (z : ℤ) → SFits w8 z → cast_unsigned w8 z < 256
small_byte (pos n) fits = let below : n < 128 = fits.sfits in omega (arith, below)
small_byte (negsuc n) fits = omega arith

pub one_byte : (z : ℤ) → SFits w8 z → cast_unsigned w8 z ∷ [] ≡ signed_form 1 z
unfolding little_form
one_byte z fits =
    let same : cast_unsigned w8 z ≡ cast_unsigned w8 z % 256 = omega (arith, small_byte z fits) in
    ap (λ (n : ℕ). n ∷ []) (same ∙ ap (λ (n : ℕ). n % 256) (wrapped_1 z))

pub two_bytes : (z : ℤ) → to_le_bytes w16 (cast_unsigned w16 z) ≡ signed_form 2 z
two_bytes z = lowest_bytes 2 (cast_unsigned w16 z) ∙ ap (little_form 2) (wrapped_2 z)

pub four_bytes : (z : ℤ) → to_le_bytes w32 (cast_unsigned w32 z) ≡ signed_form 4 z
four_bytes z = lowest_bytes 4 (cast_unsigned w32 z) ∙ ap (little_form 4) (wrapped_4 z)

pub eight_bytes : (z : ℤ) → to_le_bytes w64 (cast_unsigned w64 z) ≡ signed_form 8 z
eight_bytes z = lowest_bytes 8 (cast_unsigned w64 z) ∙ ap (little_form 8) (wrapped_8 z)
