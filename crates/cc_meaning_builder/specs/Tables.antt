-- The tables of the file that is built: a row for each thing that is named and none beside what these rows need, in the order of the format (Dalvik
-- Executable format, sections string_id_item, type_id_item, proto_id_item, field_id_item and method_id_item).
use Rattle.std.specs.Prelude.{◌≡◌, ℕ, ◌<◌, List, [], ◌∷◌, length, map, slice_get, slice_index, ◌==◌, if◌then◌else◌, Some, Contains, AllPairs}
use Rattle.std.specs.Option.{option_map}
use Rattle.cc_meaning.specs.Order.{IsRising}
use Rattle.cc_meaning.specs.declared.file.ClassRow.{ClassRow}
use Rattle.cc_meaning.specs.declared.file.FieldRow.{FieldRow}
use Rattle.cc_meaning.specs.declared.file.Ids.{Ids}
use Rattle.cc_meaning.specs.declared.file.MethodRow.{MethodRow}
use Rattle.cc_meaning.specs.declared.file.ProtoRow.{ProtoRow}
use Rattle.cc_meaning.specs.declared.listing.RowName.{RowName}
use Rattle.cc_meaning.specs.declared.listing.RowName.TheVariants as row
use Rattle.cc_meaning_dex.specs.Classes.{EachPair}
use Rattle.cc_meaning_program.specs.Named.{type_name}
use Rattle.cc_meaning_program.specs.Rows.{FitTables}
use Rattle.cc_meaning_builder.specs.declared.content.ListedClass.{ListedClass}
use Rattle.cc_meaning_builder.specs.Named.{Means, all_names}

-- ---- the order of rows

-- prototypes by their results, then by their parameters
abbrev pub prototype_key : ProtoRow → List ℕ
prototype_key prototype = prototype.result ∷ prototype.params

-- fields by their classes, then their names, then their types
abbrev pub field_key : FieldRow → List ℕ
field_key field = field.class ∷ field.name ∷ field.kind ∷ []

-- methods by their classes, then their names, then their prototypes
abbrev pub method_key : MethodRow → List ℕ
method_key method = method.class ∷ method.name ∷ method.proto ∷ []

-- texts by their units, types by their texts; none stands twice
pub record AreOrdered (ids : Ids) : Type 0 where
  pub texts : IsRising ids.texts
  pub types : AllPairs ◌<◌ ids.types
  pub protos : IsRising (map prototype_key ids.protos)
  pub fields : IsRising (map field_key ids.fields)
  pub methods : IsRising (map method_key ids.methods)

-- ---- what a row is there for

-- one letter for each type, that of a class for arrays
abbrev pub short_letter : List ℕ → ℕ
short_letter name = if slice_index name 0 == 91 then 76 else slice_index name 0

-- the short form of a prototype: its result and its parameters, a letter each
abbrev pub short_form : Ids → ProtoRow → List ℕ
short_form ids prototype = map (λ type. short_letter (type_name ids type)) (prototype.result ∷ prototype.params)

-- a text is named, or a row needs it
pub data NeedsText (named : List RowName) (ids : Ids) : List ℕ → Type 0 where
  text : {units : List ℕ} → Contains named (row.Text units) → NeedsText named ids units
  descriptor : {type : ℕ} {units : List ℕ} → Contains ids.types type → slice_get ids.texts type ≡ Some units → NeedsText named ids units
  field_name : {field : FieldRow} {units : List ℕ} → Contains ids.fields field → slice_get ids.texts field.name ≡ Some units → NeedsText named ids units
  method_name : {method : MethodRow} {units : List ℕ} → Contains ids.methods method → slice_get ids.texts method.name ≡ Some units → NeedsText named ids units
  short : {prototype : ProtoRow} → Contains ids.protos prototype → NeedsText named ids (short_form ids prototype)

-- a type is named, or a row needs it
pub data NeedsType (named : List RowName) (ids : Ids) : ℕ → Type 0 where
  class : {type : ℕ} → Contains named (row.Class (type_name ids type)) → NeedsType named ids type
  field_class : {field : FieldRow} → Contains ids.fields field → NeedsType named ids field.class
  field_kind : {field : FieldRow} → Contains ids.fields field → NeedsType named ids field.kind
  method_class : {method : MethodRow} → Contains ids.methods method → NeedsType named ids method.class
  result : {prototype : ProtoRow} → Contains ids.protos prototype → NeedsType named ids prototype.result
  param : {prototype : ProtoRow} {type : ℕ} → Contains ids.protos prototype → Contains prototype.params type → NeedsType named ids type

-- a row of fields is named
pub record NeedsField (named : List RowName) (ids : Ids) (number : ℕ) : Type 0 where
  pub class : List ℕ
  pub name : List ℕ
  pub kind : List ℕ
  pub listed : Contains named (row.Field class name kind)
  pub meant : Means ids (row.Field class name kind) number

-- a row of methods is named
pub record NeedsMethod (named : List RowName) (ids : Ids) (number : ℕ) : Type 0 where
  pub class : List ℕ
  pub name : List ℕ
  pub proto : List ℕ
  pub listed : Contains named (row.Method class name proto)
  pub meant : Means ids (row.Method class name proto) number

-- a row of prototypes is that of a method
abbrev pub NeedsPrototype : Ids → ℕ → Type 0
NeedsPrototype ids number = (method : MethodRow) × Contains ids.methods method × (method.proto ≡ number)

pub record AreNeeded (named : List RowName) (ids : Ids) : Type 0 where
  pub texts : (units : List ℕ) → Contains ids.texts units → NeedsText named ids units
  pub types : (number : ℕ) → number < length ids.types → NeedsType named ids number
  pub protos : (number : ℕ) → number < length ids.protos → NeedsPrototype ids number
  pub fields : (number : ℕ) → number < length ids.fields → NeedsField named ids number
  pub methods : (number : ℕ) → number < length ids.methods → NeedsMethod named ids number

-- ---- the tables

-- the row of the definition of a class
pub record IsClassRow (ids : Ids) (listed : ListedClass) (stated : ClassRow) : Type 0 where
  pub class : type_name ids stated.class ≡ listed.name
  pub flags : stated.flags ≡ listed.flags
  pub superclass : option_map (type_name ids) stated.superclass ≡ listed.superclass
  pub interfaces : map (type_name ids) stated.interfaces ≡ listed.interfaces

-- the tables of these classes; the definitions stand in the order in which they were added
pub record AreTables (content : List ListedClass) (ids : Ids) : Type 0 where
  pub fit : FitTables ids
  pub ordered : AreOrdered ids
  pub named : (name : RowName) → Contains (all_names content) name → (number : ℕ) × Means ids name number
  pub needed : AreNeeded (all_names content) ids
  pub classes : EachPair (IsClassRow ids) content ids.classes
