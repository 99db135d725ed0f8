-- Format by format: the instruction that units give is one that they spell, and they spell no other.
use Rattle.std.proofs.Common.{◌≡◌, ℕ, ◌+◌, ◌*◌, ◌/◌, ◌%◌, ◌^◌, ◌<◌, ◌≤◌, [], ◌∷◌, take, ℤ, to_z, refl, sym, ap, ◌∙◌, arith}
use Rattle.std.specs.Int.{w8, w16, w32, w64}
use Rattle.cc_meaning.specs.declared.instruction.Insn.{Insn}
use Rattle.cc_meaning.specs.declared.instruction.Insn.TheVariants as make
use Rattle.cc_meaning_insn.specs.declared.forms.OneUnit.{OneUnit}
use Rattle.cc_meaning_insn.specs.declared.forms.OneUnit.TheVariants.{F10x, F12x, F11n, F11x, F10t}
use Rattle.cc_meaning_insn.specs.declared.forms.TwoUnits.{TwoUnits}
use Rattle.cc_meaning_insn.specs.declared.forms.TwoUnits.TheVariants.{F20t, F22x, F21t, F21s, F21h, F21c, F23x, F22b, F22t, F22s, F22c}
use Rattle.cc_meaning_insn.specs.declared.forms.ThreeUnits.{ThreeUnits}
use Rattle.cc_meaning_insn.specs.declared.forms.ThreeUnits.TheVariants.{F30t, F32x, F31i, F31t, F31c}
use Rattle.cc_meaning_insn.specs.declared.forms.Constant.{Constant}
use Rattle.cc_meaning_insn.specs.declared.forms.Constant.TheVariants as constant
use Rattle.cc_meaning_insn.specs.declared.forms.Listed.{Listed}
use Rattle.cc_meaning_insn.specs.Forms.{signed_half, of_pair, of_triple, of_constant, of_high, of_pair_named, of_distant, of_listed, high_half, one_unit, two_units, three_units, listed_units, ranged_units, long_of}
use Rattle.cc_meaning_insn.specs.Spelling.{SpellsSigned, Halves, Bytes, FourHalves, SpellsOne, SpellsHigh, SpellsTwo, SpellsThree, SpellsListed, SpellsRanged}
use Rattle.cc_meaning_insn.proofs.Signed.{signed_sound, signed_only, half_sound, half_only}

halves : (a : ℕ) → a < 256 → Halves a (a % 16) (a / 16)
halves a h = record { small = omega arith; top = omega arith; whole = omega arith }

low_of : (a x y : ℕ) → Halves a x y → x ≡ a % 16
low_of a x y h = omega arith

high_of : (a x y : ℕ) → Halves a x y → y ≡ a / 16
high_of a x y h = omega arith

two_bytes : (b : ℕ) → b < 65536 → Bytes b (b % 256) (b / 256)
two_bytes b h = record { small = omega arith; top = omega arith; whole = omega arith }

low_byte_of : (b x y : ℕ) → Bytes b x y → x ≡ b % 256
low_byte_of b x y h = omega arith

high_byte_of : (b x y : ℕ) → Bytes b x y → y ≡ b / 256
high_byte_of b x y h = omega arith

pub one_sound : (form : OneUnit) (a : ℕ) → a < 256 → SpellsOne form a (one_unit form a)
unfolding one_unit
one_sound (F10x form) a h = refl
one_sound (F12x form) a h = (a % 16, a / 16, halves a h, refl)
one_sound F11n a h = (a % 16, a / 16, signed_half (a / 16), halves a h, half_sound (a / 16) (omega arith), refl)
one_sound (F11x form) a h = refl
one_sound F10t a h = (to_z w8 a, signed_sound w8 a h, refl)

pub one_only : (form : OneUnit) (a : ℕ) (insn : Insn) → SpellsOne form a insn → insn ≡ one_unit form a
unfolding one_unit
one_only (F10x form) a insn s = s
one_only (F12x form) a insn s = s.3 ∙ (λ i. of_pair form (low_of a s.0 s.1 s.2 i) (high_of a s.0 s.1 s.2 i))
one_only F11n a insn s =
    s.5 ∙ (λ i. make.ConstInt (low_of a s.0 s.1 s.3 i) (half_only s.1 s.2 s.4 i)) ∙ ap (λ y. make.ConstInt (a % 16) (signed_half y)) (high_of a s.0 s.1 s.3)
one_only (F11x form) a insn s = s
one_only F10t a insn s = s.2 ∙ ap make.Goto (signed_only w8 a s.0 s.1)

high_sound : (form : Constant) (a b : ℕ) → b < 65536 → SpellsHigh form a b (of_high form a b)
high_sound constant.Int a b h = (to_z w32 (b * 2 ^ 16), signed_sound w32 (b * 2 ^ 16) (omega arith), refl)
high_sound constant.Long a b h = (to_z w64 (b * 2 ^ 48), signed_sound w64 (b * 2 ^ 48) (omega arith), refl)

high_only : (form : Constant) (a b : ℕ) (insn : Insn) → SpellsHigh form a b insn → insn ≡ of_high form a b
high_only constant.Int a b insn s = s.2 ∙ ap (make.ConstInt a) (signed_only w32 (b * 2 ^ 16) s.0 s.1)
high_only constant.Long a b insn s = s.2 ∙ ap (make.ConstLong a) (signed_only w64 (b * 2 ^ 48) s.0 s.1)

pub two_sound : (form : TwoUnits) (a b : ℕ) → a < 256 → b < 65536 → SpellsTwo form a b (two_units form a b)
unfolding two_units
two_sound F20t a b h k = (to_z w16 b, signed_sound w16 b k, refl)
two_sound (F22x kind) a b h k = refl
two_sound (F21t test) a b h k = (to_z w16 b, signed_sound w16 b k, refl)
two_sound (F21s form) a b h k = (to_z w16 b, signed_sound w16 b k, refl)
two_sound (F21h form) a b h k = high_sound form a b k
two_sound (F21c form) a b h k = refl
two_sound (F23x form) a b h k = (b % 256, b / 256, two_bytes b k, refl)
two_sound (F22b op reversed) a b h k = (b % 256, b / 256, to_z w8 (b / 256), two_bytes b k, signed_sound w8 (b / 256) (omega arith), refl)
two_sound (F22t test) a b h k = (a % 16, a / 16, to_z w16 b, halves a h, signed_sound w16 b k, refl)
two_sound (F22s op reversed) a b h k = (a % 16, a / 16, to_z w16 b, halves a h, signed_sound w16 b k, refl)
two_sound (F22c form) a b h k = (a % 16, a / 16, halves a h, refl)

pub two_only : (form : TwoUnits) (a b : ℕ) (insn : Insn) → SpellsTwo form a b insn → insn ≡ two_units form a b
unfolding two_units
two_only F20t a b insn s = s.2 ∙ ap make.Goto (signed_only w16 b s.0 s.1)
two_only (F22x kind) a b insn s = s
two_only (F21t test) a b insn s = s.2 ∙ ap (make.IfZero test a) (signed_only w16 b s.0 s.1)
two_only (F21s form) a b insn s = s.2 ∙ ap (of_constant form a) (signed_only w16 b s.0 s.1)
two_only (F21h form) a b insn s = high_only form a b insn s
two_only (F21c form) a b insn s = s
two_only (F23x form) a b insn s = s.3 ∙ (λ i. of_triple form a (low_byte_of b s.0 s.1 s.2 i) (high_byte_of b s.0 s.1 s.2 i))
two_only (F22b op reversed) a b insn s =
    s.5 ∙ (λ i. make.IntLit op reversed a (low_byte_of b s.0 s.1 s.3 i) (signed_only w8 s.1 s.2 s.4 i))
    ∙ ap (λ n. make.IntLit op reversed a (b % 256) (to_z w8 n)) (high_byte_of b s.0 s.1 s.3)
two_only (F22t test) a b insn s =
    s.5 ∙ (λ i. make.If test (low_of a s.0 s.1 s.3 i) (high_of a s.0 s.1 s.3 i) (signed_only w16 b s.2 s.4 i))
two_only (F22s op reversed) a b insn s =
    s.5 ∙ (λ i. make.IntLit op reversed (low_of a s.0 s.1 s.3 i) (high_of a s.0 s.1 s.3 i) (signed_only w16 b s.2 s.4 i))
two_only (F22c form) a b insn s = s.3 ∙ (λ i. of_pair_named form (low_of a s.0 s.1 s.2 i) (high_of a s.0 s.1 s.2 i) b)

pub three_sound : (form : ThreeUnits) (a b c : ℕ) → b < 65536 → c < 65536 → SpellsThree form a b c (three_units form a b c)
unfolding three_units
three_sound F30t a b c h k = (to_z w32 (b + 65536 * c), signed_sound w32 (b + 65536 * c) (omega arith), refl)
three_sound (F32x kind) a b c h k = refl
three_sound (F31i form) a b c h k = (to_z w32 (b + 65536 * c), signed_sound w32 (b + 65536 * c) (omega arith), refl)
three_sound (F31t form) a b c h k = (to_z w32 (b + 65536 * c), signed_sound w32 (b + 65536 * c) (omega arith), refl)
three_sound F31c a b c h k = refl

pub three_only : (form : ThreeUnits) (a b c : ℕ) (insn : Insn) → SpellsThree form a b c insn → insn ≡ three_units form a b c
unfolding three_units
three_only F30t a b c insn s = s.2 ∙ ap make.Goto (signed_only w32 (b + 65536 * c) s.0 s.1)
three_only (F32x kind) a b c insn s = s
three_only (F31i form) a b c insn s = s.2 ∙ ap (of_constant form a) (signed_only w32 (b + 65536 * c) s.0 s.1)
three_only (F31t form) a b c insn s = s.2 ∙ ap (of_distant form a) (signed_only w32 (b + 65536 * c) s.0 s.1)
three_only F31c a b c insn s = s

four_halves : (c : ℕ) → c < 65536 → FourHalves c (c % 16) (c / 16 % 16) (c / 256 % 16) (c / 4096)
four_halves c h = record { c_small = omega arith; d_small = omega arith; e_small = omega arith; f_small = omega arith; whole = omega arith }

pub listed_sound : (form : Listed) (a b c : ℕ) → a < 256 → c < 65536 → high_half a ≤ 5 → SpellsListed form a b c (listed_units form a b c)
unfolding listed_units
listed_sound form a b c h k few =
    (a / 16, c % 16, c / 16 % 16, c / 256 % 16, c / 4096, a % 16, few, halves a h, four_halves c k, refl)

pub listed_only : (form : Listed) (a b c : ℕ) (insn : Insn) → SpellsListed form a b c insn → (high_half a ≤ 5) × (insn ≡ listed_units form a b c)
unfolding listed_units
listed_only form a b c insn s =
    let halves = s.7 in
    let four = s.8 in
    let count : s.0 ≡ a / 16 = high_of a s.5 s.0 halves in
    let fifth : s.5 ≡ a % 16 = low_of a s.5 s.0 halves in
    let first : s.1 ≡ c % 16 = omega (arith, four.c_small, four.d_small, four.e_small, four.f_small, four.whole) in
    let second : s.2 ≡ c / 16 % 16 = omega (arith, four.c_small, four.d_small, four.e_small, four.f_small, four.whole) in
    let third : s.3 ≡ c / 256 % 16 = omega (arith, four.c_small, four.d_small, four.e_small, four.f_small, four.whole) in
    let fourth : s.4 ≡ c / 4096 = omega (arith, four.c_small, four.d_small, four.e_small, four.f_small, four.whole) in
    (omega (arith, count, s.6), s.9 ∙ (λ i. of_listed form b (take (count i) (first i ∷ second i ∷ third i ∷ fourth i ∷ fifth i ∷ []))))

five_bits : (b c d e : ℕ) → b + 65536 * c + 2 ^ 32 * (d + 65536 * e) ≡ b + 2 ^ 16 * c + 2 ^ 32 * d + 2 ^ 48 * e
five_bits b c d e = omega arith

pub five_sound : (b c d e : ℕ) → b < 65536 → c < 65536 → d < 65536 → e < 65536 →
    SpellsSigned w64 (b + 2 ^ 16 * c + 2 ^ 32 * d + 2 ^ 48 * e) (long_of b c d e)
five_sound b c d e h k l m =
    let s = signed_sound w64 (b + 65536 * c + 2 ^ 32 * (d + 65536 * e)) (omega arith) in
    record { fits = s.fits; as_bits = sym (five_bits b c d e) ∙ s.as_bits }

pub five_only : (b c d e : ℕ) (value : ℤ) → SpellsSigned w64 (b + 2 ^ 16 * c + 2 ^ 32 * d + 2 ^ 48 * e) value → value ≡ long_of b c d e
five_only b c d e value s = signed_only w64 (b + 2 ^ 16 * c + 2 ^ 32 * d + 2 ^ 48 * e) value s ∙ ap (to_z w64) (sym (five_bits b c d e))

pub ranged_sound : (form : Listed) (a b c : ℕ) → SpellsRanged form a b c (ranged_units form a b c)
unfolding ranged_units
ranged_sound form a b c = refl

pub ranged_only : (form : Listed) (a b c : ℕ) (insn : Insn) → SpellsRanged form a b c insn → insn ≡ ranged_units form a b c
unfolding ranged_units
ranged_only form a b c insn s = s
