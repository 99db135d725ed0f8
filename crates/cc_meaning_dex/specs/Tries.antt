-- Tries and their handlers (Dalvik Executable format, `try_item`, `encoded_catch_handler_list`, `encoded_catch_handler` and
-- `encoded_type_addr_pair`), and with them whole code items.
use Rattle.std.specs.Prelude.{◌≡◌, ◌≢◌, ◌⊎◌, ℕ, ◌+◌, ◌≤◌, ℤ, pos, ◌<ℤ◌, ◌≤ℤ◌, int_lt, unsigned_abs, Bool, true, false, ◌&&◌, nat_le, ◌==◌, if◌then◌else◌, List, [], ◌∷◌, ◌++◌, length, slice_get, Option, Some, None}
use Rattle.cc_meaning.specs.declared.file.Ids.{Ids}
use Rattle.cc_meaning.specs.declared.file.RawCode.{RawCode}
use Rattle.cc_meaning.specs.declared.file.RawMethod.{RawMethod}
use Rattle.cc_meaning.specs.declared.file.RawTry.{RawTry}
use Rattle.cc_meaning.specs.declared.file.RawCatch.{RawCatch}
use Rattle.cc_meaning_dex.specs.Leb128.{SpellsUleb, SpellsSleb}
use Rattle.cc_meaning_dex.specs.Numbers.{Within, u16_at, u32_at}
use Rattle.cc_meaning_dex.specs.Descriptors.{names_value}
use Rattle.cc_meaning_dex.specs.declared.items.Cursor.{Cursor}
use Rattle.cc_meaning_dex.specs.declared.items.Handler.{Handler}
use Rattle.cc_meaning_dex.specs.declared.items.StatedMethod.{StatedMethod}
use Rattle.cc_meaning_dex.specs.Sequences.{◌>>=◌, number_at, signed_at, ListStands, list_at}
use Rattle.cc_meaning_dex.specs.Rows.{descriptor_of}
use Rattle.cc_meaning_dex.specs.Members.{only_if}
use Rattle.cc_meaning_dex.specs.CodeItems.{register_count, argument_count, try_count, unit_count, units_at, tries_at, handlers_at, UnitStands, unit_at}

-- ---- what is spelled

-- a row of types that is there and isn't V
pub record IsValueType (ids : Ids) (row : ℕ) : Type 0 where
  pub name : List ℕ
  pub named : descriptor_of ids row ≡ Some name
  pub value : names_value name ≡ true

-- a pair of a type's row and an address
pub record PairStands (file : List ℕ) (ids : Ids) (from : Cursor) (catch : RawCatch) (next : Cursor) : Type 0 where
  pub type : ℕ
  pub place : ℕ
  pub number : SpellsUleb file from.at type place
  pub address : SpellsUleb file place catch.at next.at
  pub caught : IsValueType ids type
  pub row : catch.row ≡ Some type
  pub behind : next.row ≡ from.row

-- what takes all, at this address
abbrev pub catch_all : ℕ → RawCatch
catch_all address = record { row = None; at = address }

-- Behind the pairs of a handler stands the address of what takes all, where its size isn't positive.
abbrev pub CatchAllStands : List ℕ → ℤ → List RawCatch → ℕ → List RawCatch → ℕ → Type 0
CatchAllStands file size pairs at catches next =
    ((pos 0 <ℤ size) × (catches ≡ pairs) × (next ≡ at))
    ⊎ ((size ≤ℤ pos 0) × (address : ℕ) × SpellsUleb file at address next × (catches ≡ pairs ++ catch_all address ∷ []))

-- a handler: its size, by its absolute value so many pairs, and what takes all
pub record HandlerStands (file : List ℕ) (ids : Ids) (from : Cursor) (handler : Handler) (next : Cursor) : Type 0 where
  pub size : ℤ
  pub pairs_at : ℕ
  pub stated : SpellsSleb file from.at size pairs_at
  pub pairs : List RawCatch
  pub rest_at : ℕ
  pub listed : ListStands (PairStands file ids) (unsigned_abs size) pairs_at pairs rest_at
  pub rest : CatchAllStands file size pairs rest_at handler.catches next.at
  pub start : handler.start ≡ from.at
  pub behind : next.row ≡ from.row

-- a handler list: a count, and that many handlers
pub record SpellsHandlers (file : List ℕ) (ids : Ids) (at : ℕ) (handlers : List Handler) : Type 0 where
  pub count : ℕ
  pub place : ℕ
  pub end : ℕ
  pub stated : SpellsUleb file at count place
  pub listed : ListStands (HandlerStands file ids) count place handlers end

-- one of these handlers begins at this place, and catches so
pub record IsHandlerAt (handlers : List Handler) (start : ℕ) (catches : List RawCatch) : Type 0 where
  pub place : ℕ
  pub handler : Handler
  pub there : slice_get handlers place ≡ Some handler
  pub begun : handler.start ≡ start
  pub caught : handler.catches ≡ catches

-- each of these handlers begins behind the one before it, and none before this place
abbrev pub RisesFrom : ℕ → List Handler → Type 0
RisesFrom low [] = Unit {0}
RisesFrom low (handler ∷ handlers) = (low ≤ handler.start) × RisesFrom (handler.start + 1) handlers

-- a try of code of so many units, whose handler list begins at `list`: where it starts, how many units it covers, and how many bytes its handler
-- lies behind the list's start
pub record TryStands (file : List ℕ) (units list : ℕ) (handlers : List Handler) (from : Cursor) (try : RawTry) (next : Cursor) : Type 0 where
  pub within : Within file from.at 8
  pub start : try.start ≡ u32_at file from.at
  pub end : try.end ≡ u32_at file from.at + u16_at file (from.at + 4)
  pub inside : u32_at file from.at + u16_at file (from.at + 4) ≤ units
  pub handler : IsHandlerAt handlers (list + u16_at file (from.at + 6)) try.catches
  pub after : next.at ≡ from.at + 8
  pub behind : next.row ≡ from.row

-- the tries of a code item that has some, and its handler list
pub record SpellsTries (file : List ℕ) (ids : Ids) (at : ℕ) (tries : List RawTry) : Type 0 where
  pub handlers : List Handler
  pub spelled : SpellsHandlers file ids (handlers_at file at) handlers
  pub end : ℕ
  pub listed : ListStands (TryStands file (unit_count file at) (handlers_at file at) handlers) (try_count file at) (tries_at file at) tries end

-- a code item without tries has no handler list
abbrev pub HasTries : List ℕ → Ids → ℕ → List RawTry → Type 0
HasTries file ids at tries = ((try_count file at ≡ 0) × (tries ≡ [])) ⊎ ((try_count file at ≢ 0) × SpellsTries file ids at tries)

-- the code item at `at`
pub record SpellsCode (file : List ℕ) (ids : Ids) (at : ℕ) (code : RawCode) : Type 0 where
  pub registers : code.registers ≡ register_count file at
  pub ins : code.ins ≡ argument_count file at
  pub end : ℕ
  pub units : ListStands (UnitStands file) (unit_count file at) (units_at at) code.units end
  pub tries : HasTries file ids at code.tries

-- the code at an offset, none at offset 0
abbrev pub HasCode : List ℕ → Ids → ℕ → Option RawCode → Type 0
HasCode file ids at None = at ≡ 0
HasCode file ids at (Some code) = (at ≢ 0) × SpellsCode file ids at code

-- a method with its code
pub record SpellsMethod (file : List ℕ) (ids : Ids) (stated : StatedMethod) (method : RawMethod) : Type 0 where
  pub row : method.row ≡ stated.row
  pub flags : method.flags ≡ stated.flags
  pub list : method.is_direct ≡ stated.is_direct
  pub code : HasCode file ids stated.code_at method.code

-- ---- how it is read

abbrev pub is_value : Option (List ℕ) → Bool
is_value None = false
is_value (Some name) = names_value name

abbrev pub is_value_type : Ids → ℕ → Bool
is_value_type ids row = is_value (descriptor_of ids row)

unfoldable pub pair_at : List ℕ → Ids → Cursor → Option (RawCatch × Cursor)
pair_at file ids from = do
  type ← number_at file from.at
  address ← number_at file type.1
  only_if (is_value_type ids type.0) (record { row = Some type.0; at = address.0 }, record { at = address.1; row = from.row })

unfoldable pub catch_all_at : List ℕ → ℤ → List RawCatch → ℕ → Option (List RawCatch × ℕ)
catch_all_at file size pairs at = if int_lt (pos 0) size then Some (pairs, at) else (number_at file at >>= λ address. Some (pairs ++ catch_all address.0 ∷ [], address.1))

unfoldable pub handler_at : List ℕ → Ids → Cursor → Option (Handler × Cursor)
handler_at file ids from = do
  size ← signed_at file from.at
  pairs ← list_at (pair_at file ids) (unsigned_abs size.0) size.1
  catches ← catch_all_at file size.0 pairs.0 pairs.1
  Some (record { start = from.at; catches = catches.0 }, record { at = catches.1; row = from.row })

unfoldable pub handlers_of : List ℕ → Ids → ℕ → Option (List Handler)
handlers_of file ids at = do
  count ← number_at file at
  handlers ← list_at (handler_at file ids) count.0 count.1
  Some handlers.0

-- what the first handler that begins at this place catches
unfoldable pub catches_at : List Handler → ℕ → Option (List RawCatch)
catches_at [] start = None
catches_at (handler ∷ handlers) start = if handler.start == start then Some handler.catches else catches_at handlers start

-- whether a try lies in the file, and what it covers in the code
abbrev pub try_fits : List ℕ → ℕ → ℕ → Bool
try_fits file units at = nat_le (at + 8) (length file) && nat_le (u32_at file at + u16_at file (at + 4)) units

unfoldable pub try_at : List ℕ → ℕ → ℕ → List Handler → Cursor → Option (RawTry × Cursor)
try_at file units list handlers from =
    if try_fits file units from.at
    then (catches_at handlers (list + u16_at file (from.at + 6)) >>= λ catches.
    Some (record { start = u32_at file from.at; end = u32_at file from.at + u16_at file (from.at + 4); catches = catches }, record { at = from.at + 8; row = from.row }))
    else None

unfoldable pub some_tries_of : List ℕ → Ids → ℕ → Option (List RawTry)
some_tries_of file ids at = do
  handlers ← handlers_of file ids (handlers_at file at)
  tries ← list_at (try_at file (unit_count file at) (handlers_at file at) handlers) (try_count file at) (tries_at file at)
  Some tries.0

unfoldable pub tries_of : List ℕ → Ids → ℕ → Option (List RawTry)
tries_of file ids at = if try_count file at == 0 then Some [] else some_tries_of file ids at

unfoldable pub code_item_at : List ℕ → Ids → ℕ → Option RawCode
code_item_at file ids at = do
  units ← list_at (unit_at file) (unit_count file at) (units_at at)
  tries ← tries_of file ids at
  Some (record { registers = register_count file at; ins = argument_count file at; units = units.0; tries = tries })

unfoldable pub code_of : List ℕ → Ids → ℕ → Option (Option RawCode)
code_of file ids at = if at == 0 then Some None else (code_item_at file ids at >>= λ code. Some (Some code))

unfoldable pub method_of : List ℕ → Ids → StatedMethod → Option RawMethod
method_of file ids stated = do
  code ← code_of file ids stated.code_at
  Some (record { row = stated.row; flags = stated.flags; is_direct = stated.is_direct; code = code })
