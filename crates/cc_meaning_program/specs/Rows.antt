-- What the rows of a file's tables, and the rows that its classes name, are sure to be.
use Rattle.std.specs.Prelude.{◌≡◌, ℕ, ◌<◌, Bool, true, false, List, length, slice_get, Some, is_some, Contains}
use Rattle.cc_meaning.specs.declared.file.ClassRow.{ClassRow}
use Rattle.cc_meaning.specs.declared.file.FieldRow.{FieldRow}
use Rattle.cc_meaning.specs.declared.file.Ids.{Ids}
use Rattle.cc_meaning.specs.declared.file.MethodRow.{MethodRow}
use Rattle.cc_meaning.specs.declared.file.ProtoRow.{ProtoRow}
use Rattle.cc_meaning.specs.declared.file.RawCatch.{RawCatch}
use Rattle.cc_meaning.specs.declared.file.RawClass.{RawClass}
use Rattle.cc_meaning.specs.declared.file.RawCode.{RawCode}
use Rattle.cc_meaning.specs.declared.file.RawField.{RawField}
use Rattle.cc_meaning.specs.declared.file.RawMethod.{RawMethod}
use Rattle.cc_meaning.specs.declared.file.RawTry.{RawTry}
use Rattle.cc_meaning.specs.declared.program.StaticValue.TheVariants as static
use Rattle.cc_meaning_dex.specs.Descriptors.{names_class, names_reference, names_value, IsDescriptor}
use Rattle.cc_meaning_dex.specs.Ids.{SpellsIds}
use Rattle.cc_meaning_dex.specs.Classes.{SpellsClasses}
use Rattle.cc_meaning_dex.specs.CodeItems.{has_flag}
use Rattle.cc_meaning_dex.specs.Rows.{IsFieldOf, IsMethodOf}
use Rattle.cc_meaning_program.specs.Named.{type_name}

-- a row of types that is there, whose descriptor passes a test
pub record IsTypeRow (sort : List ℕ → Bool) (ids : Ids) (row : ℕ) : Type 0 where
  pub there : row < length ids.types
  pub sorted : sort (type_name ids row) ≡ true

-- ---- tables

pub record PrototypeFits (ids : Ids) (prototype : ProtoRow) : Type 0 where
  pub result : prototype.result < length ids.types
  pub params : (type : ℕ) → Contains prototype.params type → IsTypeRow names_value ids type

pub record FieldFits (ids : Ids) (field : FieldRow) : Type 0 where
  pub class : IsTypeRow names_reference ids field.class
  pub kind : IsTypeRow names_value ids field.kind
  pub name : field.name < length ids.texts

pub record MethodFits (ids : Ids) (method : MethodRow) : Type 0 where
  pub class : IsTypeRow names_reference ids method.class
  pub proto : method.proto < length ids.protos
  pub name : method.name < length ids.texts

pub record ClassFits (ids : Ids) (stated : ClassRow) : Type 0 where
  pub class : IsTypeRow names_class ids stated.class
  pub superclass : (type : ℕ) → stated.superclass ≡ Some type → IsTypeRow names_reference ids type
  pub interfaces : (type : ℕ) → Contains stated.interfaces type → IsTypeRow names_reference ids type

-- the rows of tables name rows that are there and of their sort
pub record FitTables (ids : Ids) : Type 0 where
  pub types : (row : ℕ) → row < length ids.types → IsDescriptor (type_name ids row)
  pub protos : (row : ℕ) (prototype : ProtoRow) → slice_get ids.protos row ≡ Some prototype → PrototypeFits ids prototype
  pub fields : (row : ℕ) (field : FieldRow) → slice_get ids.fields row ≡ Some field → FieldFits ids field
  pub methods : (row : ℕ) (method : MethodRow) → slice_get ids.methods row ≡ Some method → MethodFits ids method
  pub classes : (row : ℕ) (class : ClassRow) → slice_get ids.classes row ≡ Some class → ClassFits ids class

-- ---- classes

abbrev pub CatchFits : Ids → RawCatch → Type 0
CatchFits ids catch = (type : ℕ) → catch.row ≡ Some type → IsTypeRow names_value ids type

abbrev pub TriesFit : Ids → List RawTry → Type 0
TriesFit ids tries = (try : RawTry) (catch : RawCatch) → Contains tries try → Contains try.catches catch → CatchFits ids catch

-- a method of a class, by the row of the class's type: its row is of that class, and it has code unless it is native or abstract
pub record MemberFits (ids : Ids) (class : ℕ) (method : RawMethod) : Type 0 where
  pub owned : IsMethodOf ids class method.row
  pub coded : has_flag method.flags 256 ≡ false → has_flag method.flags 1024 ≡ false → is_some method.code ≡ true
  pub tries : (code : RawCode) → method.code ≡ Some code → TriesFit ids code.tries

pub record MembersFit (ids : Ids) (stated : ClassRow) (class : RawClass) : Type 0 where
  pub fields : (field : RawField) → Contains class.fields field → IsFieldOf ids stated.class field.row
  pub methods : (method : RawMethod) → Contains class.methods method → MemberFits ids stated.class method
  pub values : (row : ℕ) → Contains class.values (static.Text row) → row < length ids.texts

-- there are members for each definition, and what they name is there
pub record FitClasses (ids : Ids) (classes : List RawClass) : Type 0 where
  pub whole : length classes ≡ length ids.classes
  pub members : (number : ℕ) (stated : ClassRow) (class : RawClass) → slice_get ids.classes number ≡ Some stated → slice_get classes number ≡ Some class → MembersFit ids stated class

-- ---- laws

-- so are the tables and the classes that a file spells
abbrev pub SpelledTablesFit : Type 0
SpelledTablesFit = (file : List ℕ) (ids : Ids) → SpellsIds file ids → FitTables ids

abbrev pub SpelledClassesFit : Type 0
SpelledClassesFit = (file : List ℕ) (ids : Ids) (classes : List RawClass) → SpellsIds file ids → SpellsClasses file ids classes → FitClasses ids classes
