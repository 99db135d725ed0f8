-- The members and the code that were added, in the form in which a file has them.
use Rattle.std.specs.Prelude.{◌≡◌, ◌⊎◌, ℕ, zero, suc, ◌+◌, ◌/◌, ◌%◌, ◌<◌, ◌≤◌, Bool, true, false, ◌||◌, ◌==◌, if◌then◌else◌, pos, List, [], ◌∷◌, map, take, slice_index, slice_set, Option, Some, None, AllPairs, IsPermutation}
use Rattle.std.specs.List.{filter}
use Rattle.cc_meaning.specs.declared.file.Ids.{Ids}
use Rattle.cc_meaning.specs.declared.file.RawCatch.{RawCatch}
use Rattle.cc_meaning.specs.declared.file.RawClass.{RawClass}
use Rattle.cc_meaning.specs.declared.file.RawCode.{RawCode}
use Rattle.cc_meaning.specs.declared.file.RawField.{RawField}
use Rattle.cc_meaning.specs.declared.file.RawMethod.{RawMethod}
use Rattle.cc_meaning.specs.declared.file.RawTry.{RawTry}
use Rattle.cc_meaning.specs.declared.listing.ListedCatch.{ListedCatch}
use Rattle.cc_meaning.specs.declared.listing.ListedTry.{ListedTry}
use Rattle.cc_meaning.specs.declared.listing.ListedValue.{ListedValue}
use Rattle.cc_meaning.specs.declared.listing.ListedValue.TheVariants as listed
use Rattle.cc_meaning.specs.declared.listing.Listing.{Listing}
use Rattle.cc_meaning.specs.declared.listing.Mark.{Mark}
use Rattle.cc_meaning.specs.declared.listing.RowName.TheVariants as row
use Rattle.cc_meaning.specs.declared.program.StaticValue.{StaticValue}
use Rattle.cc_meaning.specs.declared.program.StaticValue.TheVariants as static
use Rattle.cc_meaning_dex.specs.Classes.{EachPair}
use Rattle.cc_meaning_dex.specs.CodeItems.{argument_registers, has_flag}
use Rattle.cc_meaning_builder.specs.declared.content.ListedClass.{ListedClass}
use Rattle.cc_meaning_builder.specs.declared.content.ListedField.{ListedField}
use Rattle.cc_meaning_builder.specs.declared.content.ListedMethod.{ListedMethod}
use Rattle.cc_meaning_builder.specs.Named.{Means}

-- ---- code

-- the unit before this place is the first of a const-string/jumbo, so a row takes two units
abbrev pub is_wide_row : ℕ → List ℕ → Bool
is_wide_row zero units = false
is_wide_row (suc before) units = slice_index units before % 256 == 27

-- a unit holds a row below 65,536; two units hold each row
abbrev pub HasRoom : ℕ → ℕ → List ℕ → Type 0
HasRoom at number units = is_wide_row at units ≡ false → number < 65536

-- a row's number put at a place that has room for it: whole, or its low 16 bits and behind them its high ones where it takes two units
unfoldable pub put_row : ℕ → ℕ → List ℕ → List ℕ
put_row at number units =
    if is_wide_row at units then slice_set (slice_set units at (number % 65536)) (at + 1) (number / 65536)
    else slice_set units at number

-- the row that each mark names stands at its place, which has room for it, one mark after the other
pub data ArePut (ids : Ids) : List Mark → List ℕ → List ℕ → Type 0 where
  done : {units : List ℕ} → ArePut ids [] units units
  more : {mark : Mark} {marks : List Mark} {units end : List ℕ} (number : ℕ) → Means ids mark.row number → HasRoom mark.at number units →
      ArePut ids marks (put_row mark.at number units) end → ArePut ids (mark ∷ marks) units end

-- the type that a handler takes
abbrev pub IsCaught : Ids → Option (List ℕ) → Option ℕ → Type 0
IsCaught ids None caught = caught ≡ None
IsCaught ids (Some name) caught = (number : ℕ) × Means ids (row.Class name) number × (caught ≡ Some number)

pub record IsRawCatch (ids : Ids) (listed : ListedCatch) (catch : RawCatch) : Type 0 where
  pub caught : IsCaught ids listed.class catch.row
  pub at : catch.at ≡ listed.at

pub record IsRawTry (ids : Ids) (listed : ListedTry) (try : RawTry) : Type 0 where
  pub start : try.start ≡ listed.start
  pub end : try.end ≡ listed.end
  pub catches : EachPair (IsRawCatch ids) listed.catches try.catches

-- the code of a method of this row: as many of its registers are arguments as its prototype says, where 16 bits hold that
pub record IsRawCode (ids : Ids) (number flags : ℕ) (listing : Listing) (code : RawCode) : Type 0 where
  pub registers : code.registers ≡ listing.registers
  pub ins : (count : ℕ) → argument_registers ids number flags ≡ Some count → count < 65536 → code.ins ≡ count
  pub units : ArePut ids listing.marks listing.units code.units
  pub tries : EachPair (IsRawTry ids) listing.tries code.tries

abbrev pub HasRawCode : Ids → ℕ → ℕ → Option Listing → Option RawCode → Type 0
HasRawCode ids number flags None code = code ≡ None
HasRawCode ids number flags (Some listing) code = (raw : RawCode) × (code ≡ Some raw) × IsRawCode ids number flags listing raw

-- ---- members

-- A method is direct where it is static, private or a constructor, by its flags or by a name that begins with `<`.
abbrev pub is_direct_method : ℕ → List ℕ → Bool
is_direct_method flags name = has_flag flags 8 || (has_flag flags 2 || (has_flag flags 65536 || (slice_index name 0 == 60)))

pub record IsRawField (ids : Ids) (class : List ℕ) (listed : ListedField) (field : RawField) : Type 0 where
  pub named : Means ids (row.Field class listed.name listed.kind) field.row
  pub flags : field.flags ≡ listed.flags
  pub list : field.is_static ≡ has_flag listed.flags 8

pub record IsRawMethod (ids : Ids) (class : List ℕ) (listed : ListedMethod) (method : RawMethod) : Type 0 where
  pub named : Means ids (row.Method class listed.name listed.proto) method.row
  pub flags : method.flags ≡ listed.flags
  pub list : method.is_direct ≡ is_direct_method listed.flags listed.name
  pub code : HasRawCode ids method.row method.flags listed.code method.code

-- static fields before the others, and in each of the two lists no row below the one before it
abbrev pub FieldBefore : RawField → RawField → Type 0
FieldBefore one other = ((one.is_static ≡ true) × (other.is_static ≡ false)) ⊎ ((one.is_static ≡ other.is_static) × (one.row ≤ other.row))

-- direct methods before virtual ones, likewise
abbrev pub MethodBefore : RawMethod → RawMethod → Type 0
MethodBefore one other = ((one.is_direct ≡ true) × (other.is_direct ≡ false)) ⊎ ((one.is_direct ≡ other.is_direct) × (one.row ≤ other.row))

-- ---- values

-- what a field of a type begins with where nothing is said
abbrev pub zero_of : List ℕ → StaticValue
zero_of kind =
    if slice_index kind 0 == 74 then static.Long (pos 0)
    else if slice_index kind 0 == 76 || slice_index kind 0 == 91 then static.Null
    else static.Int (pos 0)

abbrev pub IsRawValue : Ids → ListedValue → StaticValue → Type 0
IsRawValue ids (listed.Int n) value = value ≡ static.Int n
IsRawValue ids (listed.Long n) value = value ≡ static.Long n
IsRawValue ids (listed.Text units) value = (number : ℕ) × Means ids (row.Text units) number × (value ≡ static.Text number)
IsRawValue ids listed.Null value = value ≡ static.Null

-- the value that is said, or else the zero of the field's type
abbrev pub Begins : Ids → List ℕ → Option ListedValue → StaticValue → Type 0
Begins ids kind None value = value ≡ zero_of kind
Begins ids kind (Some listed) value = IsRawValue ids listed value

abbrev pub FieldBegins : Ids → ListedField → StaticValue → Type 0
FieldBegins ids field value = Begins ids field.kind field.value value

-- one more than behind a field that begins with a value that is said, or that has such a field behind it
abbrev pub count_with : Option ListedValue → ℕ → ℕ
count_with (Some value) behind = behind + 1
count_with None behind = if behind == 0 then 0 else behind + 1

-- how many fields there are up to the last that begins with a value that is said
unfoldable pub value_count : List ListedField → ℕ
value_count [] = 0
value_count (field ∷ fields) = count_with field.value (value_count fields)

abbrev pub statics_of : List ListedField → List ListedField
statics_of fields = filter (λ field. has_flag field.flags 8) fields

-- the values of the static fields in their order, up to the last that is said
abbrev pub AreRawValues : Ids → List ListedField → List StaticValue → Type 0
AreRawValues ids fields values = EachPair (FieldBegins ids) (take (value_count (statics_of fields)) (statics_of fields)) values

-- ---- classes

-- the members that were added, in the order in which a file has them
pub record IsRawClass (ids : Ids) (listed : ListedClass) (class : RawClass) : Type 0 where
  pub fields : List ListedField
  pub all_fields : IsPermutation listed.fields fields
  pub each_field : EachPair (IsRawField ids listed.name) fields class.fields
  pub fields_rise : AllPairs FieldBefore class.fields
  pub methods : List ListedMethod
  pub all_methods : IsPermutation listed.methods methods
  pub each_method : EachPair (IsRawMethod ids listed.name) methods class.methods
  pub methods_rise : AllPairs MethodBefore class.methods
  pub values : AreRawValues ids fields class.values

abbrev pub AreRawClasses : List ListedClass → Ids → List RawClass → Type 0
AreRawClasses content ids classes = EachPair (IsRawClass ids) content classes

-- ---- what code passes

-- the most registers that an invoke of a method's code passes, as its listing says; 0 without code
abbrev pub code_outs : Option Listing → ℕ
code_outs None = 0
code_outs (Some listing) = listing.outs

abbrev pub outs_of : ListedMethod → ℕ
outs_of method = code_outs method.code

-- the members that were added, and what the code of each method passes, in the order in which a file has the methods
pub record HasOuts (ids : Ids) (listed : ListedClass) (class : RawClass) (outs : List ℕ) : Type 0 where
  pub members : IsRawClass ids listed class
  pub passed : outs ≡ map outs_of members.methods

-- the classes in their order, each with what the code of its methods passes
abbrev pub AreOuts : Ids → List ListedClass → List RawClass → List (List ℕ) → Type 0
AreOuts ids [] [] [] = Unit {0}
AreOuts ids (listed ∷ content) (class ∷ classes) (outs ∷ all) = HasOuts ids listed class outs × AreOuts ids content classes all
AreOuts ids [] [] (outs ∷ all) = ⊥
AreOuts ids [] (class ∷ classes) all = ⊥
AreOuts ids (listed ∷ content) [] all = ⊥
AreOuts ids (listed ∷ content) (class ∷ classes) [] = ⊥
