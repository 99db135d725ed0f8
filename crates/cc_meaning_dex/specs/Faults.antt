-- The faults of a file's header and tables, in the order in which they are named.
use Rattle.std.specs.Prelude.{◌≡◌, ◌≢◌, ℕ, zero, suc, ◌+◌, ◌*◌, Bool, not, ◌&&◌, ◌||◌, nat_lt, ◌==◌, if◌then◌else◌, List, [], length, map, nat_eq, Option, Some, None, Result, Ok, Err, unwrap_or}
use Rattle.std.specs.Option.{option_or}
use Rattle.std.specs.List.{list_all, range_with_len, starts_with}
use Rattle.std.specs.Str.{bytes_eq}
use Rattle.cc_meaning.specs.declared.fault.DexFault.{DexFault}
use Rattle.cc_meaning.specs.declared.fault.DexFault.TheVariants as fault
use Rattle.cc_meaning.specs.declared.fault.TextFault.{TextFault}
use Rattle.cc_meaning.specs.declared.fault.TextFault.TheVariants as text
use Rattle.cc_meaning_dex.specs.declared.table.Table.{Table}
use Rattle.cc_meaning_dex.specs.declared.table.Table.TheVariants.{Texts, Types, Prototypes, Fields, Methods, Classes}
use Rattle.cc_meaning_dex.specs.Numbers.{u16_at, u32_at}
use Rattle.cc_meaning_dex.specs.Texts.{text_item_at, text_at}
use Rattle.cc_meaning_dex.specs.Tables.{longest_file, magic, usual_order, stated_sum, found_sum, stated_signature, found_signature, table_number, row_bytes, row_count, table_at, row_at}
use Rattle.cc_meaning_dex.specs.Descriptors.{is_paired, is_descriptor, names_class, names_reference, names_value}

-- ---- what reading answers

-- What is spelled, where there is no fault; the fault, where there is one; and at any time that there is no memory.
abbrev pub Reads : {A : Type 0} → Option DexFault → (A → Type 0) → Result A DexFault → Type 0
Reads found spelled (Ok value) = (found ≡ None) × spelled value
Reads found spelled (Err reason) = reason ≢ fault.Memory → found ≡ Some reason

-- the fault of the first of so many places, counted from 0, that has one
unfoldable pub first_below : (ℕ → Option DexFault) → ℕ → Option DexFault
first_below at zero = None
first_below at (suc n) = option_or (first_below at n) (at n)

-- ---- the header and the tables

-- the sum of all bytes behind it, or else the signature of all behind it, isn't the stated one
unfoldable pub sums_fault : List ℕ → Option DexFault
sums_fault file =
    if not (stated_sum file == found_sum file) then Some (fault.BadChecksum (stated_sum file) (found_sum file))
    else if not (bytes_eq (stated_signature file) (found_signature file)) then Some fault.BadSignature
    else None

-- A file of fewer than 8 bytes has another beginning, and one of fewer than 112 no whole header.
unfoldable pub header_fault : List ℕ → Option DexFault
header_fault file =
    if nat_lt longest_file (length file) then Some fault.TooLarge
    else if not (starts_with nat_eq file magic) then Some fault.NotDex035
    else if nat_lt (length file) 112 then Some fault.BadSize
    else if not (u32_at file 40 == usual_order) then Some fault.NotDex035
    else if not (u32_at file 36 == 112) then Some fault.BadSize
    else if not (u32_at file 32 == length file) then Some fault.BadSize
    else sums_fault file

-- a table that has rows and leaves the file
unfoldable pub table_fault : List ℕ → Table → Option DexFault
table_fault file table =
    if nat_lt 0 (row_count file table) && nat_lt (length file) (table_at file table + row_count file table * row_bytes table)
    then Some (fault.OutOfFile (table_at file table))
    else None

-- ---- what a row names

-- the offset of a text's item
abbrev pub text_offset : List ℕ → ℕ → ℕ
text_offset file row = u32_at file (row_at file Texts row)

-- the units of a row of texts, none where no text is spelled
abbrev pub text_units : List ℕ → ℕ → List ℕ
text_units file row = unwrap_or (text_at file (text_offset file row)) []

-- the row of texts that a row of types names
abbrev pub type_text : List ℕ → ℕ → ℕ
type_text file row = u32_at file (row_at file Types row)

-- a row of types that is there and whose descriptor passes a test
abbrev pub is_type : (List ℕ → Bool) → List ℕ → ℕ → Bool
is_type test file row = nat_lt row (row_count file Types) && test (text_units file (type_text file row))

-- a row of texts that is there and has no half of a pair alone
abbrev pub is_name : List ℕ → ℕ → Bool
is_name file row = nat_lt row (row_count file Texts) && is_paired (text_units file row)

-- A list of types is a count of 32 bits and the rows of the types, of 16 bits each; at offset 0 stands none.
unfoldable pub listed_types : List ℕ → ℕ → List ℕ
listed_types file at = if at == 0 then [] else map (λ k. u16_at file (at + 4 + k * 2)) (range_with_len 0 (u32_at file at))

-- a list of types that leaves the file, with its count or behind it
unfoldable pub list_fault : List ℕ → ℕ → Option DexFault
list_fault file at =
    if nat_lt 0 at && nat_lt (length file) (at + 4 + u32_at file at * 2) then Some (fault.OutOfFile at) else None

-- ---- the faults of a row

-- what a row names isn't there, or is of another sort
abbrev pub misfit : Table → ℕ → Bool → Option DexFault
misfit table row fits = if fits then None else Some (fault.BadIndex (table_number table) row)

-- a text's item that leaves the file, or is malformed
abbrev pub text_fault : ℕ → ℕ → Result (List ℕ × ℕ) TextFault → Option DexFault
text_fault at row (Ok item) = None
text_fault at row (Err text.CutOff) = Some (fault.OutOfFile at)
text_fault at row (Err (text.BadForm place)) = Some (fault.BadText row)
text_fault at row (Err text.BadCount) = Some (fault.BadText row)
text_fault at row (Err text.Memory) = Some (fault.BadText row)

-- a row of texts that is there and is a descriptor
abbrev pub is_described : List ℕ → ℕ → Bool
is_described file text = nat_lt text (row_count file Texts) && is_descriptor (text_units file text)

-- where a row of prototypes states its parameters' types
abbrev pub params_at : List ℕ → ℕ → ℕ
params_at file row = u32_at file (row_at file Prototypes row + 8)

-- the result is a type, and each parameter one other than V
abbrev pub prototype_fits : List ℕ → ℕ → Bool
prototype_fits file row =
    nat_lt (u32_at file (row_at file Prototypes row + 4)) (row_count file Types)
    && list_all (is_type names_value file) (listed_types file (params_at file row))

-- a field is of a class or an array, and its type isn't V
abbrev pub field_fits : List ℕ → ℕ → Bool
field_fits file row =
    is_type names_reference file (u16_at file (row_at file Fields row))
    && is_type names_value file (u16_at file (row_at file Fields row + 2))
    && is_name file (u32_at file (row_at file Fields row + 4))

abbrev pub method_fits : List ℕ → ℕ → Bool
method_fits file row =
    is_type names_reference file (u16_at file (row_at file Methods row))
    && nat_lt (u16_at file (row_at file Methods row + 2)) (row_count file Prototypes)
    && is_name file (u32_at file (row_at file Methods row + 4))

-- where a row of classes states its interfaces
abbrev pub interfaces_at : List ℕ → ℕ → ℕ
interfaces_at file row = u32_at file (row_at file Classes row + 12)

-- the number that stands for no row
abbrev pub no_row : ℕ
no_row = 4294967295

-- a superclass is none, or a class or an array
abbrev pub may_extend : List ℕ → ℕ → Bool
may_extend file superclass = superclass == no_row || is_type names_reference file superclass

-- a class is no array; its superclass, where it has one, and its interfaces are classes or arrays
abbrev pub class_fits : List ℕ → ℕ → Bool
class_fits file row =
    is_type names_class file (u32_at file (row_at file Classes row))
    && may_extend file (u32_at file (row_at file Classes row + 8))
    && list_all (is_type names_reference file) (listed_types file (interfaces_at file row))

-- the fault of a row, which is judged by itself: first that an item leaves the file, then that the row names what isn't there or is of another sort
unfoldable pub row_fault : List ℕ → Table → ℕ → Option DexFault
row_fault file Texts row = text_fault (text_offset file row) row (text_item_at file (text_offset file row))
row_fault file Types row = misfit Types row (is_described file (type_text file row))
row_fault file Prototypes row = option_or (list_fault file (params_at file row)) (misfit Prototypes row (prototype_fits file row))
row_fault file Fields row = misfit Fields row (field_fits file row)
row_fault file Methods row = misfit Methods row (method_fits file row)
row_fault file Classes row = option_or (list_fault file (interfaces_at file row)) (misfit Classes row (class_fits file row))

-- ---- the first fault

-- the fault of the first of a table's rows that has one
abbrev pub rows_fault : List ℕ → Table → Option DexFault
rows_fault file table = first_below (row_fault file table) (row_count file table)

-- the first of the six tables, in the header's order, that has a fault of this sort
abbrev pub first_of_tables : (Table → Option DexFault) → Option DexFault
first_of_tables of =
    option_or (of Texts) (option_or (of Types) (option_or (of Prototypes) (option_or (of Fields) (option_or (of Methods) (of Classes)))))

-- The first fault: the header's; then that of the first table that leaves the file; then that of the first row, table by table.
unfoldable pub first_fault : List ℕ → Option DexFault
first_fault file = option_or (header_fault file) (option_or (first_of_tables (table_fault file)) (first_of_tables (rows_fault file)))
