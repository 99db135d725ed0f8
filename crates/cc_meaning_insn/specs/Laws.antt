-- What is decoded is what the units spell, which fault comes where, and what the words of arithmetic come to.
use Rattle.std.specs.Prelude.{◌≡◌, ◌≢◌, ◌↔◌, ◌⊎◌, ℕ, ◌/◌, ◌%◌, ◌^◌, ◌<◌, ◌≤◌, Bool, true, false, ◌&&◌, nat_le, List, [], ◌∷◌, length, drop, slice_index, All, Ok, Err, ℤ, pos, ◌+ℤ◌, ◌*ℤ◌, ◌≤ℤ◌, unsigned_abs}
use Rattle.std.specs.List.{list_any}
use Rattle.std.specs.Int.{Width, int_wrap, int_div_euclid}
use Rattle.std.specs.Int.RustNames.{FitsSigned, int_div, int_rem}
use mir.Val.{bits}
use Rattle.cc_meaning.specs.declared.instruction.Insn.{Insn}
use Rattle.cc_meaning.specs.declared.fault.InsnFault.TheVariants as fault
use Rattle.cc_meaning_insn.specs.declared.forms.Opcode.{Opcode}
use Rattle.cc_meaning_insn.specs.declared.forms.Opcode.TheVariants.{Float, Unused, Listed}
use Rattle.cc_meaning_insn.specs.declared.forms.Listed as list_of
use Rattle.cc_meaning_insn.specs.Arithmetic.{modulo}
use Rattle.cc_meaning_insn.specs.Opcodes.{opcodes, opcode_at}
use Rattle.cc_meaning_insn.specs.Payloads.{array_size, element_width, is_width}
use Rattle.cc_meaning_insn.specs.Decoded.{decoded}
use Rattle.cc_meaning_insn.specs.Spelling.{Spells}

-- each is a unit of 16 bits
abbrev pub AreUnits : List ℕ → Type 0
AreUnits units = All (λ u. u < 65536) units

-- an instruction is decoded exactly where units spell it
abbrev pub InsnAgrees : Type 0
InsnAgrees = (units : List ℕ) → AreUnits units → (at : ℕ) (insn : Insn) (size : ℕ) → (decoded units at ≡ Ok (insn, size)) ↔ Spells units at insn size

-- ---- the table of opcodes

-- a number is in one of these ranges, both ends included
abbrev pub is_within : List (ℕ × ℕ) → ℕ → Bool
is_within ranges n = list_any (λ (range : ℕ × ℕ). nat_le range.0 n && nat_le n range.1) ranges

abbrev pub is_float : Opcode → Bool
is_float Float = true
is_float _ = false

abbrev pub is_unused : Opcode → Bool
is_unused Unused = true
is_unused _ = false

-- 2d to 30, 7f and 80, 82 and 83, 85 to 8c, a6 to af, c6 to cf
abbrev pub float_ranges : List (ℕ × ℕ)
float_ranges = (45, 48) ∷ (127, 128) ∷ (130, 131) ∷ (133, 140) ∷ (166, 175) ∷ (198, 207) ∷ []

-- 3e to 43, 73, 79 and 7a, e3 to ff
abbrev pub unused_ranges : List (ℕ × ℕ)
unused_ranges = (62, 67) ∷ (115, 115) ∷ (121, 122) ∷ (227, 255) ∷ []

-- the table has a row for each byte, and these are the rows that are no instruction
pub record OpcodeTable : Type 0 where
  pub rows : length opcodes ≡ 256
  pub float : (n : ℕ) → n < 256 → is_float (opcode_at n) ≡ is_within float_ranges n
  pub unused : (n : ℕ) → n < 256 → is_unused (opcode_at n) ≡ is_within unused_ranges n

-- ---- faults

-- what the low byte of the unit at `at` stands for
abbrev pub opcode_of : List ℕ → ℕ → Opcode
opcode_of units at = opcode_at (slice_index units at % 256)

-- an instruction of floating point begins at `at`
abbrev pub IsFloatAt : List ℕ → ℕ → Type 0
IsFloatAt units at = (at < length units) × (opcode_of units at ≡ Float)

-- more than five arguments are counted in the highest four bits
abbrev pub NamesTooMany : List ℕ → ℕ → Type 0
NamesTooMany units at = (form : list_of.Listed) × (opcode_of units at ≡ Listed form) × (5 < slice_index units at / 4096)

-- an unused opcode stands at `at`, or one with more than five arguments one by one
abbrev pub IsUnusedAt : List ℕ → ℕ → Type 0
IsUnusedAt units at = (at < length units) × ((opcode_of units at ≡ Unused) ⊎ NamesTooMany units at)

-- at `at` stands array data, all of it, with elements that are as wide as no number
abbrev pub IsBadPayloadAt : List ℕ → ℕ → Type 0
IsBadPayloadAt units at =
    (at < length units) × (slice_index units at ≡ 768) × (array_size (drop at units) ≤ length (drop at units))
    × (is_width (element_width (drop at units)) ≡ false)

-- each fault comes exactly so, and the units are cut off where none of this stands, nor an instruction
pub record InsnFaults : Type 0 where
  pub float : (units : List ℕ) (at : ℕ) → (decoded units at ≡ Err fault.Float) ↔ IsFloatAt units at
  pub unused : (units : List ℕ) (at : ℕ) → (decoded units at ≡ Err fault.Unused) ↔ IsUnusedAt units at
  pub bad : (units : List ℕ) (at : ℕ) → (decoded units at ≡ Err fault.BadPayload) ↔ IsBadPayloadAt units at
  pub memory : (units : List ℕ) (at : ℕ) → decoded units at ≢ Err fault.Memory
  pub cut : (units : List ℕ) → AreUnits units → (at : ℕ) → (decoded units at ≡ Err fault.CutOff)
      ↔ ((¬ IsFloatAt units at) × (¬ IsUnusedAt units at) × (¬ IsBadPayloadAt units at) × ((insn : Insn) (size : ℕ) → ¬ Spells units at insn size))

-- ---- arithmetic

-- what is left of a number in a width fits it, and differs from the number by a multiple of the width's power of two
abbrev pub WrapAgrees : Type 0
WrapAgrees = (w : Width) (z : ℤ) → FitsSigned w (int_wrap w z) × ((k : ℤ) × (z ≡ int_wrap w z +ℤ k *ℤ pos (2 ^ bits w)))

-- a quotient is rounded towards zero: the remainder is less than the divisor, its sign left aside, and no number lies on the other side of zero from the dividend
pub record DivisionAgrees : Type 0 where
  pub whole : (a b : ℤ) → a ≡ int_div a b *ℤ b +ℤ int_rem a b
  pub less : (a b : ℤ) → b ≢ pos 0 → unsigned_abs (int_rem a b) < unsigned_abs b
  pub above : (a b : ℤ) → pos 0 ≤ℤ a → pos 0 ≤ℤ int_rem a b
  pub below : (a b : ℤ) → a ≤ℤ pos 0 → int_rem a b ≤ℤ pos 0

-- a quotient by a positive number that is rounded down, and what is left over
abbrev pub FloorAgrees : Type 0
FloorAgrees = (a : ℤ) (d : ℕ) → 0 < d → (a ≡ int_div_euclid a (pos d) *ℤ pos d +ℤ pos (modulo a d)) × (modulo a d < d)
