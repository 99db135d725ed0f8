-- How the parts of a file are written: the bytes of numbers, texts, lists of types, class data, code items and static values (Dalvik Executable
-- format, sections LEB128, string_data_item, type_list, class_data_item, code_item, try_item, encoded_catch_handler_list and encoded_array_item).
use Rattle.std.specs.Prelude.{ℕ, zero, suc, ◌+◌, ◌-◌, ◌/◌, ◌%◌, ◌^◌, ℤ, pos, int_lt, unsigned_abs, Bool, true, false, not, ◌&&◌, nat_lt, nat_le, ◌==◌, if◌then◌else◌, List, [], ◌∷◌, ◌++◌, length, Option, Some, None, is_some}
use Rattle.std.specs.List.{flat_map, filter}
use Rattle.cc_meaning.specs.declared.file.Ids.{Ids}
use Rattle.cc_meaning.specs.declared.file.RawCatch.{RawCatch}
use Rattle.cc_meaning.specs.declared.file.RawCode.{RawCode}
use Rattle.cc_meaning.specs.declared.file.RawField.{RawField}
use Rattle.cc_meaning.specs.declared.file.RawTry.{RawTry}
use Rattle.cc_meaning.specs.declared.program.StaticValue.{StaticValue}
use Rattle.cc_meaning.specs.declared.program.StaticValue.TheVariants as static
use Rattle.cc_meaning_dex.specs.Mutf8.{mutf8_bytes}
use Rattle.cc_meaning_dex.specs.declared.items.StatedMethod.{StatedMethod}
use Rattle.cc_meaning_dex.specs.declared.items.ValueKind.{ValueKind}
use Rattle.cc_meaning_dex.specs.declared.items.ValueKind.TheVariants as kind
use Rattle.cc_meaning_dex.specs.Values.{field_kind}

-- ---- numbers

-- a number of so many bytes, lowest byte first
unfoldable pub little_form : ℕ → ℕ → List ℕ
little_form zero n = []
little_form (suc size) n = n % 256 ∷ little_form size (n / 256)

abbrev pub u16_form : ℕ → List ℕ
u16_form n = little_form 2 n

abbrev pub u32_form : ℕ → List ℕ
u32_form n = little_form 4 n

-- a number in at most so many groups of seven bits and one more, the lowest first, in as few as there need be
unfoldable pub uleb_within : ℕ → ℕ → List ℕ
uleb_within zero n = n % 128 ∷ []
uleb_within (suc more) n = if nat_lt n 128 then n ∷ [] else (128 + n % 128) ∷ uleb_within more (n / 128)

-- a number of 32 bits in ULEB128
abbrev pub uleb_form : ℕ → List ℕ
uleb_form n = uleb_within 4 n

-- a signed number in at most so many groups and one more, as its remainder modulo 2 ^ 35; the last group has the sign in its highest bit
unfoldable pub sleb_within : ℕ → ℕ → Bool → List ℕ
sleb_within zero n negative = n % 128 ∷ []
sleb_within (suc more) n negative =
    if (if negative then nat_le (128 ^ (more + 2) - 64) n else nat_lt n 64) then n % 128 ∷ [] else (128 + n % 128) ∷ sleb_within more (n / 128) negative

-- a signed number in SLEB128, by its size and whether it is negative
abbrev pub sleb_form : Bool → ℕ → List ℕ
sleb_form true size = sleb_within 4 (128 ^ 5 - size) true
sleb_form false size = sleb_within 4 size false

-- a number's remainder modulo 256 ^ size, which has its sign
abbrev pub wrapped : ℕ → ℤ → ℕ
wrapped size n = if int_lt n (pos 0) then 256 ^ size - unsigned_abs n else unsigned_abs n

-- a signed number of so many bytes
abbrev pub signed_form : ℕ → ℤ → List ℕ
signed_form size n = little_form size (wrapped size n)

-- ---- texts and lists of types

abbrev pub text_form : List ℕ → List ℕ
text_form units = uleb_form (length units) ++ (mutf8_bytes units ++ 0 ∷ [])

abbrev pub types_form : List ℕ → List ℕ
types_form rows = u32_form (length rows) ++ flat_map u16_form rows

-- ---- class data

-- fields, each by how far its row lies behind that of the one before it
unfoldable pub fields_form : ℕ → List RawField → List ℕ
fields_form before [] = []
fields_form before (field ∷ fields) = uleb_form (field.row - before) ++ (uleb_form field.flags ++ fields_form field.row fields)

-- methods in the same way, with the offset of their code
unfoldable pub methods_form : ℕ → List StatedMethod → List ℕ
methods_form before [] = []
methods_form before (method ∷ methods) =
    uleb_form (method.row - before) ++ (uleb_form method.flags ++ (uleb_form method.code_at ++ methods_form method.row methods))

abbrev pub static_fields : List RawField → List RawField
static_fields fields = filter (λ field. field.is_static) fields

abbrev pub instance_fields : List RawField → List RawField
instance_fields fields = filter (λ field. not field.is_static) fields

abbrev pub direct_methods : List StatedMethod → List StatedMethod
direct_methods methods = filter (λ method. method.is_direct) methods

abbrev pub virtual_methods : List StatedMethod → List StatedMethod
virtual_methods methods = filter (λ method. not method.is_direct) methods

abbrev pub member_counts : List RawField → List StatedMethod → List ℕ
member_counts fields methods =
    length (static_fields fields) ∷ length (instance_fields fields) ∷ length (direct_methods methods) ∷ length (virtual_methods methods) ∷ []

unfoldable pub class_data_form : List RawField → List StatedMethod → List ℕ
class_data_form fields methods =
    flat_map uleb_form (member_counts fields methods)
    ++ (fields_form 0 (static_fields fields) ++ (fields_form 0 (instance_fields fields)
    ++ (methods_form 0 (direct_methods methods) ++ methods_form 0 (virtual_methods methods))))

-- ---- code items

-- a type and an address, or the address of what takes all
abbrev pub caught_form : Option ℕ → List ℕ
caught_form (Some row) = uleb_form row
caught_form None = []

abbrev pub catch_form : RawCatch → List ℕ
catch_form catch = caught_form catch.row ++ uleb_form catch.at

abbrev pub takes_all : RawCatch → Bool
takes_all catch = not (is_some catch.row)

-- how many of the handlers are for a type
abbrev pub typed_count : List RawCatch → ℕ
typed_count catches = length (filter (λ catch. not (takes_all catch)) catches)

-- a handler's size is negative where one takes all
abbrev pub any_takes_all : List RawCatch → Bool
any_takes_all catches = nat_lt 0 (length (filter takes_all catches))

unfoldable pub handler_form : List RawCatch → List ℕ
handler_form catches = sleb_form (any_takes_all catches) (typed_count catches) ++ flat_map catch_form catches

-- a handler list has one handler for each try
abbrev pub handlers_form : List RawTry → List ℕ
handlers_form tries = uleb_form (length tries) ++ flat_map (λ try. handler_form try.catches) tries

-- tries, the first of which has its handler this many bytes behind the start of the handler list
unfoldable pub tries_form : ℕ → List RawTry → List ℕ
tries_form offset [] = []
tries_form offset (try ∷ tries) =
    u32_form try.start ++ (u16_form (try.end - try.start) ++ (u16_form offset ++ tries_form (offset + length (handler_form try.catches)) tries))

-- a unit between an odd count of units and tries
abbrev pub padding_form : List ℕ → List ℕ
padding_form units = if length units % 2 == 0 then [] else 0 ∷ 0 ∷ []

abbrev pub tries_part : RawCode → List ℕ
tries_part code =
    if length code.tries == 0 then []
    else padding_form code.units ++ (tries_form (length (uleb_form (length code.tries))) code.tries ++ handlers_form code.tries)

-- the registers, those of arguments and of passed arguments, and the number of tries; no debug information; and the number of units
abbrev pub code_head : ℕ → RawCode → List ℕ
code_head outs code =
    u16_form code.registers ++ (u16_form code.ins ++ (u16_form outs ++ (u16_form (length code.tries) ++ (u32_form 0 ++ u32_form (length code.units)))))

unfoldable pub code_form : ℕ → RawCode → List ℕ
code_form outs code = code_head outs code ++ (flat_map u16_form code.units ++ tries_part code)

-- ---- static values

-- a number that so many bits hold besides a sign
abbrev pub is_within : ℕ → ℤ → Bool
is_within bits n = if int_lt n (pos 0) then nat_le (unsigned_abs n) (2 ^ bits) else nat_lt (unsigned_abs n) (2 ^ bits)

-- a number of 16 bits without a sign
abbrev pub is_unit : ℤ → Bool
is_unit n = not (int_lt n (pos 0)) && nat_lt (unsigned_abs n) 65536

-- A value of a field's kind. One of another kind is written as what it is.
unfoldable pub value_form : Option ValueKind → StaticValue → List ℕ
value_form (Some kind.Boolean) (static.Int n) = if unsigned_abs n == 0 then 31 ∷ [] else if unsigned_abs n == 1 && not (int_lt n (pos 0)) then 63 ∷ [] else 100 ∷ signed_form 4 n
value_form (Some kind.Byte) (static.Int n) = if is_within 7 n then 0 ∷ signed_form 1 n else 100 ∷ signed_form 4 n
value_form (Some kind.Short) (static.Int n) = if is_within 15 n then 34 ∷ signed_form 2 n else 100 ∷ signed_form 4 n
value_form (Some kind.Char) (static.Int n) = if is_unit n then 35 ∷ signed_form 2 n else 100 ∷ signed_form 4 n
value_form any (static.Int n) = 100 ∷ signed_form 4 n
value_form any (static.Long n) = 230 ∷ signed_form 8 n
value_form any (static.Text row) = 119 ∷ u32_form row
value_form any static.Null = 30 ∷ []

-- the values of the first fields, each of the kind of its field
unfoldable pub each_value_form : Ids → List RawField → List StaticValue → List ℕ
each_value_form ids fields [] = []
each_value_form ids [] (value ∷ values) = value_form None value ++ each_value_form ids [] values
each_value_form ids (field ∷ fields) (value ∷ values) = value_form (field_kind ids field.row) value ++ each_value_form ids fields values

unfoldable pub values_form : Ids → List RawField → List StaticValue → List ℕ
values_form ids fields values = uleb_form (length values) ++ each_value_form ids fields values
