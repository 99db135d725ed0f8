-- Static values (Dalvik Executable format, `encoded_array_item` and `encoded_value`): a count, and values for the first static fields in order.
use Rattle.std.specs.Prelude.{◌≡◌, ◌≢◌, ◌⊎◌, ℕ, zero, suc, ◌+◌, ◌-◌, ◌*◌, ◌/◌, ◌%◌, ◌^◌, ◌<◌, ◌≤◌, ℤ, pos, ◌-ℤ◌, Bool, true, ◌&&◌, ◌||◌, nat_le, nat_lt, ◌==◌, if◌then◌else◌, List, [], length, slice_index, slice_get, Option, Some, None}
use Rattle.std.specs.Str.{bytes_eq}
use Rattle.cc_meaning.specs.BuiltIn.{string_name}
use Rattle.cc_meaning.specs.declared.file.Ids.{Ids}
use Rattle.cc_meaning.specs.declared.file.RawField.{RawField}
use Rattle.cc_meaning.specs.declared.program.StaticValue.{StaticValue}
use Rattle.cc_meaning.specs.declared.program.StaticValue.TheVariants as static
use Rattle.cc_meaning_dex.specs.Leb128.{SpellsUleb}
use Rattle.cc_meaning_dex.specs.declared.items.Cursor.{Cursor}
use Rattle.cc_meaning_dex.specs.declared.items.ValueKind.{ValueKind}
use Rattle.cc_meaning_dex.specs.declared.items.ValueKind.TheVariants.{Boolean, Byte, Short, Char, Int, Long, Text, Reference}
use Rattle.cc_meaning_dex.specs.Sequences.{◌>>=◌, number_at, ListStands, list_at}
use Rattle.cc_meaning_dex.specs.Rows.{descriptor_of}
use Rattle.cc_meaning_dex.specs.Members.{row_behind, only_if}

-- ---- the kind of a field's values

-- the kind of a type, by its descriptor and the first unit of that
abbrev pub kind_by : ℕ → List ℕ → Option ValueKind
kind_by first units =
    if first == 90 then Some Boolean
    else if first == 66 then Some Byte
    else if first == 83 then Some Short
    else if first == 67 then Some Char
    else if first == 73 then Some Int
    else if first == 74 then Some Long
    else if first == 76 || first == 91 then Some (if bytes_eq units string_name then Text else Reference)
    else None

unfoldable pub kind_of : List ℕ → Option ValueKind
kind_of units = kind_by (slice_index units 0) units

abbrev pub field_kind : Ids → ℕ → Option ValueKind
field_kind ids row = do
  field ← slice_get ids.fields row
  units ← descriptor_of ids field.kind
  kind_of units

-- ---- numbers

-- the number in so many bytes from `at` on, lowest byte first; a byte past the end counts as 0
unfoldable pub little_at : List ℕ → ℕ → ℕ → ℕ
little_at file at zero = 0
little_at file at (suc n) = slice_index file at + 256 * little_at file (at + 1) n

-- a number of so many bytes, whose highest bit is a sign
abbrev pub sign_extended : ℕ → ℕ → ℤ
sign_extended size number = if nat_lt number (2 ^ (8 * size - 1)) then pos number else pos number -ℤ pos (2 ^ (8 * size))

abbrev pub signed_little_at : List ℕ → ℕ → ℕ → ℤ
signed_little_at file at size = sign_extended size (little_at file at size)

-- ---- what is spelled

-- the first byte of a value: its type in the lower five bits, and an argument in the upper three
pub record HeadStands (file : List ℕ) (at type argument : ℕ) : Type 0 where
  pub within : at < length file
  pub lower : slice_index file at % 32 ≡ type
  pub upper : slice_index file at / 32 ≡ argument

-- a value of a type with one byte more than its argument says, at most so many
pub record NumberStands (file : List ℕ) (at type most argument next : ℕ) : Type 0 where
  pub head : HeadStands file at type argument
  pub few : argument + 1 ≤ most
  pub within : at + 1 + (argument + 1) ≤ length file
  pub end : next ≡ at + 1 + (argument + 1)

abbrev pub NullStands : List ℕ → ℕ → StaticValue → ℕ → Type 0
NullStands file at value next = HeadStands file at 30 0 × (value ≡ static.Null) × (next ≡ at + 1)

-- an int that is extended with its sign
abbrev pub SignedStands : List ℕ → ℕ → ℕ → ℕ → StaticValue → ℕ → Type 0
SignedStands file type most at value next =
    (argument : ℕ) × NumberStands file at type most argument next × (value ≡ static.Int (signed_little_at file (at + 1) (argument + 1)))

-- a value of a kind, in a file of so many texts
abbrev pub SpellsValue : List ℕ → ℕ → ValueKind → ℕ → StaticValue → ℕ → Type 0
SpellsValue file texts Boolean at value next = (flag : ℕ) × HeadStands file at 31 flag × (flag ≤ 1) × (value ≡ static.Int (pos flag)) × (next ≡ at + 1)
SpellsValue file texts Byte at value next = SignedStands file 0 1 at value next
SpellsValue file texts Short at value next = SignedStands file 2 2 at value next
SpellsValue file texts Char at value next =
    (argument : ℕ) × NumberStands file at 3 2 argument next × (value ≡ static.Int (pos (little_at file (at + 1) (argument + 1))))
SpellsValue file texts Int at value next = SignedStands file 4 4 at value next
SpellsValue file texts Long at value next =
    (argument : ℕ) × NumberStands file at 6 8 argument next × (value ≡ static.Long (signed_little_at file (at + 1) (argument + 1)))
SpellsValue file texts Text at value next =
    NullStands file at value next
    ⊎ ((argument : ℕ) × NumberStands file at 23 4 argument next × (little_at file (at + 1) (argument + 1) < texts)
    × (value ≡ static.Text (little_at file (at + 1) (argument + 1))))
SpellsValue file texts Reference at value next = NullStands file at value next

-- the value of the next of these fields, which is static
pub record ValueStands (file : List ℕ) (ids : Ids) (fields : List RawField) (from : Cursor) (value : StaticValue) (next : Cursor) : Type 0 where
  pub field : RawField
  pub there : slice_get fields from.row ≡ Some field
  pub static : field.is_static ≡ true
  pub kind : ValueKind
  pub kinded : field_kind ids field.row ≡ Some kind
  pub spelled : SpellsValue file (length ids.texts) kind from.at value next.at
  pub fits : from.row + 1 < 2 ^ 32
  pub behind : next.row ≡ from.row + 1

pub record SpellsSomeValues (file : List ℕ) (ids : Ids) (fields : List RawField) (at : ℕ) (values : List StaticValue) : Type 0 where
  pub count : ℕ
  pub place : ℕ
  pub end : ℕ
  pub stated : SpellsUleb file at count place
  pub listed : ListStands (ValueStands file ids fields) count place values end

-- the values at an offset, none at offset 0
abbrev pub SpellsValues : List ℕ → Ids → List RawField → ℕ → List StaticValue → Type 0
SpellsValues file ids fields at values = ((at ≡ 0) × (values ≡ [])) ⊎ ((at ≢ 0) × SpellsSomeValues file ids fields at values)

-- ---- how it is read

-- a number of so many bytes, at most so many, which lie in the file
abbrev pub number_fits : List ℕ → ℕ → ℕ → ℕ → Bool
number_fits file most at size = nat_le size most && nat_le (at + size) (length file)

abbrev pub boolean_by : ℕ → ℕ → ℕ → Option (StaticValue × ℕ)
boolean_by type argument at = only_if (type == 31 && nat_le argument 1) (static.Int (pos argument), at)

abbrev pub null_by : ℕ → ℕ → ℕ → Option (StaticValue × ℕ)
null_by type argument at = only_if (type == 30 && argument == 0) (static.Null, at)

abbrev pub signed_by : List ℕ → ℕ → ℕ → ℕ → ℕ → ℕ → Option (StaticValue × ℕ)
signed_by file wanted most type argument at =
    only_if (type == wanted && number_fits file most at (argument + 1)) (static.Int (signed_little_at file at (argument + 1)), at + (argument + 1))

abbrev pub char_by : List ℕ → ℕ → ℕ → ℕ → Option (StaticValue × ℕ)
char_by file type argument at =
    only_if (type == 3 && number_fits file 2 at (argument + 1)) (static.Int (pos (little_at file at (argument + 1))), at + (argument + 1))

abbrev pub long_by : List ℕ → ℕ → ℕ → ℕ → Option (StaticValue × ℕ)
long_by file type argument at =
    only_if (type == 6 && number_fits file 8 at (argument + 1)) (static.Long (signed_little_at file at (argument + 1)), at + (argument + 1))

abbrev pub text_by : List ℕ → ℕ → ℕ → ℕ → Option (StaticValue × ℕ)
text_by file texts argument at =
    only_if (number_fits file 4 at (argument + 1) && nat_lt (little_at file at (argument + 1)) texts)
    (static.Text (little_at file at (argument + 1)), at + (argument + 1))

-- a value of a kind behind its first byte, by the type and the argument there
unfoldable pub value_by : List ℕ → ℕ → ValueKind → ℕ → ℕ → ℕ → Option (StaticValue × ℕ)
value_by file texts Boolean type argument at = boolean_by type argument at
value_by file texts Byte type argument at = signed_by file 0 1 type argument at
value_by file texts Short type argument at = signed_by file 2 2 type argument at
value_by file texts Char type argument at = char_by file type argument at
value_by file texts Int type argument at = signed_by file 4 4 type argument at
value_by file texts Long type argument at = long_by file type argument at
value_by file texts Text type argument at = if type == 23 then text_by file texts argument at else null_by type argument at
value_by file texts Reference type argument at = null_by type argument at

unfoldable pub value_at : List ℕ → ℕ → ValueKind → ℕ → Option (StaticValue × ℕ)
value_at file texts kind at =
    if nat_lt at (length file) then value_by file texts kind (slice_index file at % 32) (slice_index file at / 32) (at + 1) else None

unfoldable pub element_at : List ℕ → Ids → List RawField → Cursor → Option (StaticValue × Cursor)
element_at file ids fields from = do
  field ← slice_get fields from.row
  static_field ← only_if field.is_static field
  kind ← field_kind ids static_field.row
  value ← value_at file (length ids.texts) kind from.at
  row ← row_behind 1 from.row
  Some (value.0, record { at = value.1; row = row })

unfoldable pub some_values_at : List ℕ → Ids → List RawField → ℕ → Option (List StaticValue)
some_values_at file ids fields at = do
  count ← number_at file at
  values ← list_at (element_at file ids fields) count.0 count.1
  Some values.0

unfoldable pub values_at : List ℕ → Ids → List RawField → ℕ → Option (List StaticValue)
values_at file ids fields at = if at == 0 then Some [] else some_values_at file ids fields at
