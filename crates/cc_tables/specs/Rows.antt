-- When a row is the one that a name means, and what tables are to be so that it is found.
use Rattle.std.specs.Prelude.{◌≡◌, ℕ, ◌^◌, ◌<◌, List, ◌++◌, length, map, slice_get, All, AllPairs, Option, Some, MatchOption, codes}
use Rattle.std.specs.List.{flat_map}
use Rattle.cc_meaning.specs.Order.{IsRising}
use Rattle.cc_meaning.specs.declared.file.FieldRow.{FieldRow}
use Rattle.cc_meaning.specs.declared.file.Ids.{Ids}
use Rattle.cc_meaning.specs.declared.file.MethodRow.{MethodRow}
use Rattle.cc_meaning.specs.declared.file.ProtoRow.{ProtoRow}
use Rattle.cc_meaning.specs.declared.listing.RowName.{RowName}
use Rattle.cc_meaning_dex.specs.Descriptors.{IsDescriptor, IsValueDescriptor}
use Rattle.cc_meaning_program.specs.Named.{type_name, prototype_of}
use Rattle.cc_meaning_program.specs.Rows.{FieldFits, MethodFits, PrototypeFits}
use Rattle.cc_meaning_builder.specs.Named.{Means}
use Rattle.cc_meaning_builder.specs.Tables.{field_key, method_key, prototype_key}

-- ---- what is answered

-- the number of a row that has a property, or none where no row has it
abbrev pub IsOneRow : (ℕ → Type 0) → Option ℕ → Type 0
IsOneRow means result = MatchOption result ((number : ℕ) → means number → ⊥) means

-- the number of the row that a name means, or none where no row is it
abbrev pub IsRowOf : Ids → RowName → Option ℕ → Type 0
IsRowOf ids name result = IsOneRow (Means ids name) result

-- a row of types, whose text is this name
abbrev pub IsDescribed : Ids → List ℕ → ℕ → Type 0
IsDescribed ids name number = (text : ℕ) × (slice_get ids.types number ≡ Some text) × (slice_get ids.texts text ≡ Some name)

-- the row of prototypes that has this name
abbrev pub IsPrototypeNamed : Ids → List ℕ → ℕ → Type 0
IsPrototypeNamed ids name number = (number < length ids.protos) × (prototype_of ids (slice_get ids.protos number) ≡ name)

-- the parts of a prototype's name: the descriptors of the parameters and of the result
pub record IsSplit (name : List ℕ) (params : List (List ℕ)) (result : List ℕ) : Type 0 where
  pub values : All IsValueDescriptor params
  pub described : IsDescriptor result
  pub form : name ≡ codes "(" ++ (flat_map (λ param. param) params ++ (codes ")" ++ result))

-- ---- what the tables are

-- each table has rows that 32 bits number
pub record FewRows (ids : Ids) : Type 0 where
  pub texts : length ids.texts < 2 ^ 32
  pub types : length ids.types < 2 ^ 32
  pub protos : length ids.protos < 2 ^ 32
  pub fields : length ids.fields < 2 ^ 32
  pub methods : length ids.methods < 2 ^ 32

-- a table is in the order of the format, and its rows are few; so are the tables that its rows name
pub record TextsRise (ids : Ids) : Type 0 where
  pub few : length ids.texts < 2 ^ 32
  pub rise : IsRising ids.texts

pub record TypesRise (ids : Ids) : Type 0 where
  pub texts : TextsRise ids
  pub few : length ids.types < 2 ^ 32
  pub rise : AllPairs ◌<◌ ids.types

pub record ProtosRise (ids : Ids) : Type 0 where
  pub types : TypesRise ids
  pub few : length ids.protos < 2 ^ 32
  pub rise : IsRising (map prototype_key ids.protos)

pub record FieldsRise (ids : Ids) : Type 0 where
  pub types : TypesRise ids
  pub few : length ids.fields < 2 ^ 32
  pub rise : IsRising (map field_key ids.fields)

pub record MethodsRise (ids : Ids) : Type 0 where
  pub protos : ProtosRise ids
  pub few : length ids.methods < 2 ^ 32
  pub rise : IsRising (map method_key ids.methods)

-- each row of types has a descriptor
abbrev pub TypesFit : Ids → Type 0
TypesFit ids = (row : ℕ) → row < length ids.types → IsDescriptor (type_name ids row)

-- what rows of prototypes, fields and methods name is there
pub record ProtosFit (ids : Ids) : Type 0 where
  pub types : TypesFit ids
  pub each : (row : ℕ) (prototype : ProtoRow) → slice_get ids.protos row ≡ Some prototype → PrototypeFits ids prototype

pub record FieldsFit (ids : Ids) : Type 0 where
  pub types : TypesFit ids
  pub each : (row : ℕ) (field : FieldRow) → slice_get ids.fields row ≡ Some field → FieldFits ids field

pub record MethodsFit (ids : Ids) : Type 0 where
  pub protos : ProtosFit ids
  pub each : (row : ℕ) (method : MethodRow) → slice_get ids.methods row ≡ Some method → MethodFits ids method
