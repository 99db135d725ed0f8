-- Code items (Dalvik Executable format, `code_item`): which methods have one, where its parts stand, and its units of code.
use Rattle.std.specs.Prelude.{◌≡◌, ◌≢◌, ◌⊎◌, ℕ, ◌+◌, ◌*◌, ◌%◌, ◌≤◌, Bool, true, false, not, ◌&&◌, ◌||◌, nat_le, ◌==◌, if◌then◌else◌, bit_and, List, length, slice_get, Option, Some, None}
use Rattle.std.specs.List.{sum_by}
use Rattle.cc_meaning.specs.declared.file.Ids.{Ids}
use Rattle.cc_meaning_dex.specs.Numbers.{Within, u16_at, u32_at}
use Rattle.cc_meaning_dex.specs.Descriptors.{begins_with}
use Rattle.cc_meaning_dex.specs.declared.items.Cursor.{Cursor}
use Rattle.cc_meaning_dex.specs.declared.items.StatedMethod.{StatedMethod}
use Rattle.cc_meaning_dex.specs.Sequences.{◌>>=◌}
use Rattle.cc_meaning_dex.specs.Rows.{descriptor_of}

-- ---- access flags

abbrev pub has_flag : ℕ → ℕ → Bool
has_flag flags flag = not (bit_and flags flag == 0)

abbrev pub is_static_method : ℕ → Bool
is_static_method flags = has_flag flags 8

-- a method that is native or abstract has no code, and each other has
abbrev pub has_no_code : ℕ → Bool
has_no_code flags = has_flag flags 256 || has_flag flags 1024

-- ---- the registers of a method's arguments

-- the descriptor of a long, `J`, or of a double, `D`; that of an array begins with `[`, also where it is of these
abbrev pub is_wide : List ℕ → Bool
is_wide units = begins_with 74 units || begins_with 68 units

-- a long and a double take two registers, and all else takes one
abbrev pub width_of : Option (List ℕ) → ℕ
width_of None = 1
width_of (Some units) = if is_wide units then 2 else 1

abbrev pub type_width : Ids → ℕ → ℕ
type_width ids type = width_of (descriptor_of ids type)

-- one register for the receiver, if there is one, and those of the parameters, where the tables have the method's row and its prototype
abbrev pub argument_registers : Ids → ℕ → ℕ → Option ℕ
argument_registers ids row flags = do
  method ← slice_get ids.methods row
  prototype ← slice_get ids.protos method.proto
  Some ((if is_static_method flags then 0 else 1) + sum_by (type_width ids) prototype.params)

-- ---- where the parts of an item stand

abbrev pub register_count : List ℕ → ℕ → ℕ
register_count file at = u16_at file at

abbrev pub argument_count : List ℕ → ℕ → ℕ
argument_count file at = u16_at file (at + 2)

abbrev pub try_count : List ℕ → ℕ → ℕ
try_count file at = u16_at file (at + 6)

abbrev pub unit_count : List ℕ → ℕ → ℕ
unit_count file at = u32_at file (at + 12)

-- the bytes of a unit that keeps the tries in step, where there are tries behind an odd count of units
abbrev pub padding : ℕ → ℕ → ℕ
padding tries units = if tries == 0 then 0 else units % 2 * 2

-- the units stand behind the head of 16 bytes, the tries behind the units, and the handler list behind the tries, each of 8 bytes
abbrev pub units_at : ℕ → ℕ
units_at at = at + 16

unfoldable pub tries_at : List ℕ → ℕ → ℕ
tries_at file at = units_at at + unit_count file at * 2 + padding (try_count file at) (unit_count file at)

unfoldable pub handlers_at : List ℕ → ℕ → ℕ
handlers_at file at = tries_at file at + try_count file at * 8

-- ---- whether a method has the code that it is to have

-- an item that lies in the file but for its handler list, and whose arguments are the method's and among its registers
pub record CodeFits (file : List ℕ) (ids : Ids) (method : StatedMethod) : Type 0 where
  pub within : handlers_at file method.code_at ≤ length file
  pub arguments : argument_registers ids method.row method.flags ≡ Some (argument_count file method.code_at)
  pub few : argument_count file method.code_at ≤ register_count file method.code_at

-- a method that is native or abstract has none, and each other has one that fits
abbrev pub HasSoundCode : List ℕ → Ids → StatedMethod → Type 0
HasSoundCode file ids method =
    ((method.code_at ≡ 0) × (has_no_code method.flags ≡ true)) ⊎ ((method.code_at ≢ 0) × (has_no_code method.flags ≡ false) × CodeFits file ids method)

abbrev pub is_number : Option ℕ → ℕ → Bool
is_number None wanted = false
is_number (Some n) wanted = n == wanted

unfoldable pub code_fits : List ℕ → Ids → StatedMethod → Bool
code_fits file ids method =
    nat_le (handlers_at file method.code_at) (length file)
    && (is_number (argument_registers ids method.row method.flags) (argument_count file method.code_at)
    && nat_le (argument_count file method.code_at) (register_count file method.code_at))

unfoldable pub has_sound_code : List ℕ → Ids → StatedMethod → Bool
has_sound_code file ids method = if method.code_at == 0 then has_no_code method.flags else not (has_no_code method.flags) && code_fits file ids method

-- ---- units

-- a unit of 16 bits
pub record UnitStands (file : List ℕ) (from : Cursor) (unit : ℕ) (next : Cursor) : Type 0 where
  pub within : Within file from.at 2
  pub value : unit ≡ u16_at file from.at
  pub end : next.at ≡ from.at + 2
  pub behind : next.row ≡ from.row

unfoldable pub unit_at : List ℕ → Cursor → Option (ℕ × Cursor)
unit_at file from = if nat_le (from.at + 2) (length file) then Some (u16_at file from.at, record { at = from.at + 2; row = from.row }) else None
