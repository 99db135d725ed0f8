-- Pairs of UTF-16, and the descriptors of types (Dalvik Executable format, sections MemberName and TypeDescriptor).
use Rattle.std.specs.Prelude.{◌≡◌, ◌≢◌, ◌⊎◌, ℕ, zero, suc, ◌+◌, ◌-◌, ◌≤◌, Bool, false, ◌&&◌, ◌||◌, not, nat_le, ◌==◌, if◌then◌else◌, List, [], ◌∷◌, ◌++◌, length, drop, slice_index, slice_range, IsTrue}
use Rattle.std.specs.List.{list_all, list_any}

-- ---- pairs

abbrev pub IsHigh : ℕ → Type 0
IsHigh u = (55296 ≤ u) × (u ≤ 56319)

abbrev pub IsLow : ℕ → Type 0
IsLow u = (56320 ≤ u) × (u ≤ 57343)

-- no unit begins or ends a pair without its other half
abbrev pub IsPaired : List ℕ → Type 0
IsPaired [] = Unit {0}
IsPaired (u ∷ []) = (IsHigh u → ⊥) × (IsLow u → ⊥)
IsPaired (u ∷ v ∷ rest) = ((IsHigh u × IsLow v) × IsPaired rest) ⊎ (((IsHigh u → ⊥) × (IsLow u → ⊥)) × IsPaired (v ∷ rest))

-- the first half of a pair, and the second
abbrev pub is_high : ℕ → Bool
is_high u = nat_le 55296 u && nat_le u 56319

abbrev pub is_low : ℕ → Bool
is_low u = nat_le 56320 u && nat_le u 57343

-- what is left is paired, where the first half of a pair may stand before it
unfoldable pub paired_after : Bool → List ℕ → Bool
paired_after begun [] = not begun
paired_after begun (u ∷ us) = (if is_low u then begun else not begun) && paired_after (is_high u) us

-- the same as a test
abbrev pub is_paired : List ℕ → Bool
is_paired units = paired_after false units

-- ---- descriptors

-- a unit that may stand in a class's name: no `;`, `[`, `(`, `)` or `:`
abbrev pub is_name_unit : ℕ → Bool
is_name_unit u = not (u == 59) && not (u == 91) && not (u == 40) && not (u == 41) && not (u == 58)

-- the units between the first and the last
abbrev pub name_of : List ℕ → List ℕ
name_of units = slice_range units 1 (length units - 1)

-- `L`, a name of one unit or more, and `;`
unfoldable pub is_class_descriptor : List ℕ → Bool
is_class_descriptor units =
    nat_le 3 (length units) && (slice_index units 0 == 76) && (slice_index units (length units - 1) == 59)
    && list_all is_name_unit (name_of units) && is_paired (name_of units)

-- a letter of Z, B, S, C, I, J, F and D, which are no class
abbrev pub is_primitive : ℕ → Bool
is_primitive u = list_any (λ letter. u == letter) (90 ∷ 66 ∷ 83 ∷ 67 ∷ 73 ∷ 74 ∷ 70 ∷ 68 ∷ [])

-- how many `[` stand in front
unfoldable pub dims_of : List ℕ → ℕ
dims_of [] = 0
dims_of (u ∷ us) = if u == 91 then dims_of us + 1 else 0

-- what an array of so many dimensions may be of: there is no array of V
abbrev pub is_base : ℕ → List ℕ → Bool
is_base dims [] = false
is_base dims (u ∷ []) = is_primitive u || (dims == 0 && u == 86)
is_base dims (u ∷ v ∷ rest) = is_class_descriptor (u ∷ v ∷ rest)

-- at most 255 `[` before a letter or a class; or V
unfoldable pub is_descriptor : List ℕ → Bool
is_descriptor units = nat_le (dims_of units) 255 && is_base (dims_of units) (drop (dims_of units) units)

-- By its first unit a descriptor is V, or a class's (`L`), or an array's (`[`).
abbrev pub begins_with : ℕ → List ℕ → Bool
begins_with u units = slice_index units 0 == u

abbrev pub names_class : List ℕ → Bool
names_class units = begins_with 76 units

abbrev pub names_reference : List ℕ → Bool
names_reference units = begins_with 76 units || begins_with 91 units

abbrev pub names_value : List ℕ → Bool
names_value units = not (begins_with 86 units)

-- ---- what a descriptor is, without a test

-- the descriptor of a class: `L`, a name of units that may stand in one, and `;`
pub record IsClassDescriptor (units : List ℕ) : Type 0 where
  pub name : List ℕ
  pub form : units ≡ 76 ∷ name ++ 59 ∷ []
  pub some : name ≢ []
  pub plain : IsTrue (list_all is_name_unit name)
  pub paired : IsPaired name

-- so many `[`
abbrev pub dimensions : ℕ → List ℕ
dimensions zero = []
dimensions (suc n) = 91 ∷ dimensions n

-- a letter, or a class
abbrev pub IsValue : List ℕ → Type 0
IsValue units = ((u : ℕ) × IsTrue (is_primitive u) × (units ≡ u ∷ [])) ⊎ IsClassDescriptor units

-- a value or an array of values, of at most 255 dimensions
pub record IsValueDescriptor (units : List ℕ) : Type 0 where
  pub dims : ℕ
  pub base : List ℕ
  pub form : units ≡ dimensions dims ++ base
  pub few : dims ≤ 255
  pub value : IsValue base

-- V, a value, or an array
abbrev pub IsDescriptor : List ℕ → Type 0
IsDescriptor units = (units ≡ 86 ∷ []) ⊎ IsValueDescriptor units
