-- Which units spell an instruction, format by format, with the operands put together (Dalvik executable instruction formats, section The formats).
-- Nothing here takes a unit apart.
use Rattle.std.specs.Prelude.{◌≡◌, ℕ, ◌+◌, ◌*◌, ◌/◌, ◌%◌, ◌^◌, ◌<◌, ◌≤◌, ◌⊎◌, List, [], ◌∷◌, ◌++◌, length, take, slice_range, All, ℤ, pos, neg_ℤ, ◌≤ℤ◌, ◌<ℤ◌, IsTrue}
use Rattle.std.specs.List.{flat_map}
use Rattle.std.specs.Int.{Width, w8, w16, w32, w64}
use Rattle.std.specs.Int.RustNames.{FitsSigned}
use mir.Val.{bits}
use Rattle.cc_meaning.specs.declared.instruction.Insn.{Insn}
use Rattle.cc_meaning.specs.declared.instruction.Insn.TheVariants as make
use Rattle.cc_meaning_insn.specs.declared.forms.Opcode.{Opcode}
use Rattle.cc_meaning_insn.specs.declared.forms.Opcode.TheVariants.{Float, Unused, One, Two, Three, Five, Listed, Ranged}
use Rattle.cc_meaning_insn.specs.declared.forms.OneUnit.{OneUnit}
use Rattle.cc_meaning_insn.specs.declared.forms.OneUnit.TheVariants.{F10x, F12x, F11n, F11x, F10t}
use Rattle.cc_meaning_insn.specs.declared.forms.TwoUnits.{TwoUnits}
use Rattle.cc_meaning_insn.specs.declared.forms.TwoUnits.TheVariants.{F20t, F22x, F21t, F21s, F21h, F21c, F23x, F22b, F22t, F22s, F22c}
use Rattle.cc_meaning_insn.specs.declared.forms.ThreeUnits.{ThreeUnits}
use Rattle.cc_meaning_insn.specs.declared.forms.ThreeUnits.TheVariants.{F30t, F32x, F31i, F31t, F31c}
use Rattle.cc_meaning_insn.specs.declared.forms.Constant.{Constant}
use Rattle.cc_meaning_insn.specs.declared.forms.Constant.TheVariants as constant
use Rattle.cc_meaning_insn.specs.declared.forms.Listed as list_of
use Rattle.cc_meaning_insn.specs.Arithmetic.{modulo}
use Rattle.cc_meaning_insn.specs.Opcodes.{opcode_at}
use Rattle.cc_meaning_insn.specs.Forms.{of_bare, of_single, of_pair, of_triple, of_constant, of_named, of_pair_named, of_distant, of_listed, registers_from}
use Rattle.cc_meaning_insn.specs.Payloads.{is_width, bytes_of}

-- ---- operands

-- these bits are those of a signed number of that width
pub record SpellsSigned (w : Width) (n : ℕ) (z : ℤ) : Type 0 where
  pub fits : FitsSigned w z
  pub as_bits : n ≡ modulo z (2 ^ bits w)

-- the same of four bits
pub record SpellsHalf (n : ℕ) (z : ℤ) : Type 0 where
  pub least : neg_ℤ (pos 8) ≤ℤ z
  pub below : z <ℤ pos 8
  pub as_bits : n ≡ modulo z 16

-- a byte of two halves, the lower first
pub record Halves (byte low high : ℕ) : Type 0 where
  pub small : low < 16
  pub top : high < 16
  pub whole : byte ≡ low + 16 * high

-- a unit of two bytes, the lower first
pub record Bytes (unit low high : ℕ) : Type 0 where
  pub small : low < 256
  pub top : high < 256
  pub whole : unit ≡ low + 256 * high

-- a unit of four halves, the lowest first
pub record FourHalves (unit c d e f : ℕ) : Type 0 where
  pub c_small : c < 16
  pub d_small : d < 16
  pub e_small : e < 16
  pub f_small : f < 16
  pub whole : unit ≡ c + 16 * d + 256 * e + 4096 * f

-- ---- formats; `a` is the high byte of the first unit, and `b` and `c` are the units behind it

abbrev pub SpellsOne : OneUnit → ℕ → Insn → Type 0
SpellsOne (F10x form) a insn = insn ≡ of_bare form
SpellsOne (F12x form) a insn = (x y : ℕ) × Halves a x y × (insn ≡ of_pair form x y)
SpellsOne F11n a insn = (x y : ℕ) × (value : ℤ) × Halves a x y × SpellsHalf y value × (insn ≡ make.ConstInt x value)
SpellsOne (F11x form) a insn = insn ≡ of_single form a
SpellsOne F10t a insn = (target : ℤ) × SpellsSigned w8 a target × (insn ≡ make.Goto target)

-- a constant whose highest 16 bits are these, and whose other bits are 0
abbrev pub SpellsHigh : Constant → ℕ → ℕ → Insn → Type 0
SpellsHigh constant.Int a b insn = (value : ℤ) × SpellsSigned w32 (b * 2 ^ 16) value × (insn ≡ make.ConstInt a value)
SpellsHigh constant.Long a b insn = (value : ℤ) × SpellsSigned w64 (b * 2 ^ 48) value × (insn ≡ make.ConstLong a value)

abbrev pub SpellsTwo : TwoUnits → ℕ → ℕ → Insn → Type 0
SpellsTwo F20t a b insn = (target : ℤ) × SpellsSigned w16 b target × (insn ≡ make.Goto target)
SpellsTwo (F22x kind) a b insn = insn ≡ make.Move kind a b
SpellsTwo (F21t test) a b insn = (target : ℤ) × SpellsSigned w16 b target × (insn ≡ make.IfZero test a target)
SpellsTwo (F21s form) a b insn = (value : ℤ) × SpellsSigned w16 b value × (insn ≡ of_constant form a value)
SpellsTwo (F21h form) a b insn = SpellsHigh form a b insn
SpellsTwo (F21c form) a b insn = insn ≡ of_named form a b
SpellsTwo (F23x form) a b insn = (left right : ℕ) × Bytes b left right × (insn ≡ of_triple form a left right)
SpellsTwo (F22b op reversed) a b insn =
    (left bits : ℕ) × (literal : ℤ) × Bytes b left bits × SpellsSigned w8 bits literal × (insn ≡ make.IntLit op reversed a left literal)
SpellsTwo (F22t test) a b insn = (x y : ℕ) × (target : ℤ) × Halves a x y × SpellsSigned w16 b target × (insn ≡ make.If test x y target)
SpellsTwo (F22s op reversed) a b insn = (x y : ℕ) × (literal : ℤ) × Halves a x y × SpellsSigned w16 b literal × (insn ≡ make.IntLit op reversed x y literal)
SpellsTwo (F22c form) a b insn = (x y : ℕ) × Halves a x y × (insn ≡ of_pair_named form x y b)

abbrev pub SpellsThree : ThreeUnits → ℕ → ℕ → ℕ → Insn → Type 0
SpellsThree F30t a b c insn = (target : ℤ) × SpellsSigned w32 (b + 65536 * c) target × (insn ≡ make.Goto target)
SpellsThree (F32x kind) a b c insn = insn ≡ make.Move kind b c
SpellsThree (F31i form) a b c insn = (value : ℤ) × SpellsSigned w32 (b + 65536 * c) value × (insn ≡ of_constant form a value)
SpellsThree (F31t form) a b c insn = (target : ℤ) × SpellsSigned w32 (b + 65536 * c) target × (insn ≡ of_distant form a target)
SpellsThree F31c a b c insn = insn ≡ make.ConstText a (b + 65536 * c)

-- arguments one by one: the first four stand in the third unit, the fifth beside the count
abbrev pub SpellsListed : list_of.Listed → ℕ → ℕ → ℕ → Insn → Type 0
SpellsListed form a b c insn =
    (count first second third fourth fifth : ℕ) × (count ≤ 5) × Halves a fifth count × FourHalves c first second third fourth
    × (insn ≡ of_listed form b (take count (first ∷ second ∷ third ∷ fourth ∷ fifth ∷ [])))

abbrev pub SpellsRanged : list_of.Listed → ℕ → ℕ → ℕ → Insn → Type 0
SpellsRanged form a b c insn = insn ≡ of_listed form b (registers_from a c)

-- the units behind the first, by the opcode
abbrev pub SpellsOpcode : Opcode → ℕ → List ℕ → Insn → Type 0
SpellsOpcode Float a more insn = ⊥
SpellsOpcode Unused a more insn = ⊥
SpellsOpcode (One form) a more insn = (more ≡ []) × SpellsOne form a insn
SpellsOpcode (Two form) a more insn = (b : ℕ) × (more ≡ b ∷ []) × SpellsTwo form a b insn
SpellsOpcode (Three form) a more insn = (b c : ℕ) × (more ≡ b ∷ c ∷ []) × SpellsThree form a b c insn
SpellsOpcode Five a more insn =
    (b c d e : ℕ) × (value : ℤ) × (more ≡ b ∷ c ∷ d ∷ e ∷ []) × SpellsSigned w64 (b + 2 ^ 16 * c + 2 ^ 32 * d + 2 ^ 48 * e) value
    × (insn ≡ make.ConstLong a value)
SpellsOpcode (Listed form) a more insn = (b c : ℕ) × (more ≡ b ∷ c ∷ []) × SpellsListed form a b c insn
SpellsOpcode (Ranged form) a more insn = (b c : ℕ) × (more ≡ b ∷ c ∷ []) × SpellsRanged form a b c insn

-- ---- whole instructions

-- units that begin with an opcode, and with none of the three that begin a payload. A high byte that a format doesn't use is any
pub record SpellsForm (units : List ℕ) (insn : Insn) : Type 0 where
  pub opcode : ℕ
  pub high : ℕ
  pub more : List ℕ
  pub low : opcode < 256
  pub no_payload : opcode ≡ 0 → (high ≡ 0) ⊎ (3 < high)
  pub stands : units ≡ (opcode + 256 * high) ∷ more
  pub spelled : SpellsOpcode (opcode_at opcode) high more insn

-- a signed number in two units, the lower first
abbrev pub int_units : ℤ → List ℕ
int_units z = modulo z (2 ^ 32) % 65536 ∷ modulo z (2 ^ 32) / 65536 ∷ []

pub record SpellsPacked (units : List ℕ) (insn : Insn) : Type 0 where
  pub first : ℤ
  pub targets : List ℤ
  pub first_fits : FitsSigned w32 first
  pub targets_fit : All (FitsSigned w32) targets
  pub stands : units ≡ 256 ∷ length targets ∷ int_units first ++ flat_map int_units targets
  pub made : insn ≡ make.PackedPayload first targets

pub record SpellsSparse (units : List ℕ) (insn : Insn) : Type 0 where
  pub keys : List ℤ
  pub targets : List ℤ
  pub keys_fit : All (FitsSigned w32) keys
  pub targets_fit : All (FitsSigned w32) targets
  pub as_many : length keys ≡ length targets
  pub stands : units ≡ 512 ∷ length keys ∷ flat_map int_units keys ++ flat_map int_units targets
  pub made : insn ≡ make.SparsePayload keys targets

-- the bytes of the elements, and behind an odd number of them one more that fills the last unit
pub record SpellsArray (units : List ℕ) (insn : Insn) : Type 0 where
  pub width : ℕ
  pub count : ℕ
  pub data_units : List ℕ
  pub bytes : List ℕ
  pub filling : List ℕ
  pub of_number : IsTrue (is_width width)
  pub elements : length bytes ≡ count * width
  pub little : length filling < 2
  pub held : bytes_of data_units ≡ bytes ++ filling
  pub stands : units ≡ 768 ∷ width ∷ count % 65536 ∷ count / 65536 ∷ data_units
  pub made : insn ≡ make.ArrayPayload width bytes

-- these units, all of them, spell the instruction
abbrev pub SpellsUnits : List ℕ → Insn → Type 0
SpellsUnits units insn = SpellsForm units insn ⊎ SpellsPacked units insn ⊎ SpellsSparse units insn ⊎ SpellsArray units insn

-- so many units from `at` on spell the instruction
pub record Spells (units : List ℕ) (at : ℕ) (insn : Insn) (size : ℕ) : Type 0 where
  pub within : at + size ≤ length units
  pub spelled : SpellsUnits (slice_range units at (at + size)) insn
