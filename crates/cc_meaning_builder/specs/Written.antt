-- What stands in a file that is written for tables and classes, and whether these are within the bounds of the format.
use Rattle.std.specs.Prelude.{◌≡◌, ◌≢◌, ◌⊎◌, ℕ, ◌+◌, ◌-◌, ◌^◌, ◌<◌, ◌≤◌, true, List, [], length, slice_get, Option, Some, None, All}
use Rattle.cc_meaning.specs.declared.file.ClassRow.{ClassRow}
use Rattle.cc_meaning.specs.declared.file.Ids.{Ids}
use Rattle.cc_meaning.specs.declared.file.RawCatch.{RawCatch}
use Rattle.cc_meaning.specs.declared.file.RawClass.{RawClass}
use Rattle.cc_meaning.specs.declared.file.RawCode.{RawCode}
use Rattle.cc_meaning.specs.declared.file.RawField.{RawField}
use Rattle.cc_meaning.specs.declared.file.RawMethod.{RawMethod}
use Rattle.cc_meaning.specs.declared.file.RawTry.{RawTry}
use Rattle.cc_meaning.specs.declared.program.StaticValue.{StaticValue}
use Rattle.cc_meaning.specs.declared.program.StaticValue.TheVariants as static
use Rattle.cc_meaning_dex.specs.Ids.{TablesSpelled}
use Rattle.cc_meaning_dex.specs.Numbers.{Stands, u16_at, u32_at}
use Rattle.cc_meaning_dex.specs.Tables.{IsHeader, HasTables, longest_file}
use Rattle.cc_meaning_dex.specs.Classes.{EachPair}
use Rattle.cc_meaning_dex.specs.declared.items.StatedMethod.{StatedMethod}
use Rattle.cc_meaning_builder.specs.Forms.{class_data_form, code_form, handlers_form, is_within, values_form}

-- ---- bounds

-- a try covers fewer than 2 ^ 16 units
pub record TryFits (try : RawTry) : Type 0 where
  pub forward : try.start ≤ try.end
  pub short : try.end - try.start < 65536

-- fewer than 2 ^ 16 tries, whose handlers take fewer than 2 ^ 16 bytes
pub record CodeFitsFormat (code : RawCode) : Type 0 where
  pub tries : length code.tries < 65536
  pub handlers : length (handlers_form code.tries) < 65536
  pub each : All TryFits code.tries

abbrev pub MethodFitsFormat : RawMethod → Type 0
MethodFitsFormat method = (code : RawCode) → method.code ≡ Some code → CodeFitsFormat code

abbrev pub ClassFitsFormat : RawClass → Type 0
ClassFitsFormat class = All MethodFitsFormat class.methods

-- a file that is read, with rows of types and prototypes that 16 bits number
pub record FitsFormat (file : List ℕ) (ids : Ids) (classes : List RawClass) : Type 0 where
  pub short : length file ≤ longest_file
  pub types : length ids.types ≤ 65536
  pub protos : length ids.protos ≤ 65536
  pub members : All ClassFitsFormat classes

-- ---- numbers of the widths that types have

pub record IsSmallCatch (catch : RawCatch) : Type 0 where
  pub type : (type : ℕ) → catch.row ≡ Some type → type < 2 ^ 32
  pub address : catch.at < 2 ^ 32

pub record IsSmallTry (try : RawTry) : Type 0 where
  pub begin : try.start < 2 ^ 32
  pub over : try.end < 2 ^ 32
  pub each : All IsSmallCatch try.catches

pub record IsSmallCode (code : RawCode) : Type 0 where
  pub few_registers : code.registers < 65536
  pub few_arguments : code.ins < 65536
  pub each_unit : All (λ unit. unit < 65536) code.units
  pub each_try : All IsSmallTry code.tries

pub record IsSmallField (field : RawField) : Type 0 where
  pub number : field.row < 2 ^ 32
  pub access : field.flags < 2 ^ 32

pub record IsSmallMethod (method : RawMethod) : Type 0 where
  pub number : method.row < 2 ^ 32
  pub access : method.flags < 2 ^ 32
  pub coded : (code : RawCode) → method.code ≡ Some code → IsSmallCode code

abbrev pub IsSmallValue : StaticValue → Type 0
IsSmallValue (static.Int n) = is_within 31 n ≡ true
IsSmallValue (static.Long n) = is_within 63 n ≡ true
IsSmallValue (static.Text row) = row < 2 ^ 32
IsSmallValue static.Null = Unit {0}

pub record IsSmallClass (class : RawClass) : Type 0 where
  pub each_field : All IsSmallField class.fields
  pub each_method : All IsSmallMethod class.methods
  pub each_value : All IsSmallValue class.values

-- ---- what is written

-- the code of a method stands at its offset, none at offset 0
abbrev pub CodeWritten : List ℕ → ℕ → Option RawCode → Type 0
CodeWritten file at None = at ≡ 0
CodeWritten file at (Some code) = (at ≢ 0) × (at < 2 ^ 32) × (outs : ℕ) × Stands file at (code_form outs code)

pub record IsMethodWritten (file : List ℕ) (stated : StatedMethod) (method : RawMethod) : Type 0 where
  pub row : stated.row ≡ method.row
  pub flags : stated.flags ≡ method.flags
  pub list : stated.is_direct ≡ method.is_direct
  pub code : CodeWritten file stated.code_at method.code

-- the members of a class, at the offset that its definition states; at offset 0 there are none
pub record AreMembersWritten (file : List ℕ) (stated : ClassRow) (class : RawClass) : Type 0 where
  pub methods : List StatedMethod
  pub each : EachPair (IsMethodWritten file) methods class.methods
  pub members : ((stated.members_at ≡ 0) × (class.fields ≡ []) × (class.methods ≡ [])) ⊎ ((stated.members_at ≢ 0) × Stands file stated.members_at (class_data_form class.fields methods))

-- the values of a class, likewise
abbrev pub AreValuesWritten : List ℕ → Ids → ClassRow → RawClass → Type 0
AreValuesWritten file ids stated class =
    ((stated.values_at ≡ 0) × (class.values ≡ [])) ⊎ ((stated.values_at ≢ 0) × Stands file stated.values_at (values_form ids class.fields class.values))

pub record IsClassWritten (file : List ℕ) (ids : Ids) (stated : ClassRow) (class : RawClass) : Type 0 where
  pub small : IsSmallClass class
  pub members : AreMembersWritten file stated class
  pub values : AreValuesWritten file ids stated class

-- ---- what code passes

-- the item at this offset states that the invokes of its code pass at most so many registers (`outs_size`); at offset 0 there is no item
abbrev pub CodePasses : List ℕ → ℕ → ℕ → Type 0
CodePasses file at outs = at ≢ 0 → u16_at file (at + 4) ≡ outs

-- each method's code passes what stands at its place
abbrev pub MethodsPass : List ℕ → List StatedMethod → List ℕ → Type 0
MethodsPass file methods outs =
    (place : ℕ) (method : StatedMethod) → slice_get methods place ≡ Some method → (passed : ℕ) → slice_get outs place ≡ Some passed → CodePasses file method.code_at passed

-- the members of a class are written, and the code of its methods passes this
pub record ClassPasses (file : List ℕ) (stated : ClassRow) (class : RawClass) (outs : List ℕ) : Type 0 where
  pub members : AreMembersWritten file stated class
  pub passed : MethodsPass file members.methods outs

abbrev pub ClassesPass : List ℕ → List ClassRow → List RawClass → List (List ℕ) → Type 0
ClassesPass file rows classes outs =
    (place : ℕ) (stated : ClassRow) → slice_get rows place ≡ Some stated → (class : RawClass) (passed : List ℕ) → slice_get classes place ≡ Some class → slice_get outs place ≡ Some passed →
    ClassPasses file stated class passed

-- ---- the whole file

-- the header states neither a link section nor a map
pub record HasNoSections (file : List ℕ) : Type 0 where
  pub link_size : u32_at file 44 ≡ 0
  pub link_at : u32_at file 48 ≡ 0
  pub map_at : u32_at file 52 ≡ 0

-- definitions that differ in no more than where members and values stand
pub record IsSameClass (this that : ClassRow) : Type 0 where
  pub class : this.class ≡ that.class
  pub flags : this.flags ≡ that.flags
  pub superclass : this.superclass ≡ that.superclass
  pub interfaces : this.interfaces ≡ that.interfaces

pub record AreSameTables (this that : Ids) : Type 0 where
  pub texts : this.texts ≡ that.texts
  pub types : this.types ≡ that.types
  pub protos : this.protos ≡ that.protos
  pub fields : this.fields ≡ that.fields
  pub methods : this.methods ≡ that.methods
  pub classes : EachPair IsSameClass this.classes that.classes

-- A file that is written for tables and classes: its header and its tables are sound, and each item stands where the tables say. The code of each method of
-- each class passes what `outs` says.
pub record IsWritten (ids : Ids) (classes : List RawClass) (outs : List (List ℕ)) (file : List ℕ) : Type 0 where
  -- the tables with the offsets that were found
  pub written : Ids
  pub same : AreSameTables written ids
  pub header : IsHeader file
  pub sections : HasNoSections file
  pub tables : HasTables file
  pub spelled : TablesSpelled file written
  pub members : EachPair (IsClassWritten file written) written.classes classes
  pub passed : ClassesPass file written.classes classes outs
