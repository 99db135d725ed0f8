-- What the six tables of a file spell: each row at its own offset, and each item where its row states it (Dalvik Executable format,
-- `string_id_item` to `class_def_item`, and `type_list`).
use Rattle.std.specs.Prelude.{◌≡◌, ◌≢◌, ◌⊎◌, ℕ, ◌+◌, ◌*◌, List, [], length, slice_get, Option, Some, None}
use Rattle.cc_meaning.specs.declared.file.Ids.{Ids}
use Rattle.cc_meaning.specs.declared.file.ProtoRow.{ProtoRow}
use Rattle.cc_meaning.specs.declared.file.FieldRow.{FieldRow}
use Rattle.cc_meaning.specs.declared.file.MethodRow.{MethodRow}
use Rattle.cc_meaning.specs.declared.file.ClassRow.{ClassRow}
use Rattle.cc_meaning_dex.specs.declared.table.Table.TheVariants.{Texts, Types, Prototypes, Fields, Methods, Classes}
use Rattle.cc_meaning_dex.specs.Numbers.{u16_at, u32_at, Within}
use Rattle.cc_meaning_dex.specs.Texts.{SpellsText}
use Rattle.cc_meaning_dex.specs.Tables.{row_count, row_at}
use Rattle.cc_meaning_dex.specs.Faults.{no_row, first_fault}

-- so many items, each of which is what its place spells
pub record EachSpelled {A : Type 0} (items : List A) (count : ℕ) (spelled : ℕ → A → Type 0) : Type 0 where
  pub all : length items ≡ count
  pub each : (place : ℕ) (item : A) → slice_get items place ≡ Some item → spelled place item

-- a list of types: a count of 32 bits, and that many rows of 16 bits
pub record SpellsTypes (file : List ℕ) (at : ℕ) (rows : List ℕ) : Type 0 where
  pub within : Within file at (4 + length rows * 2)
  pub each : EachSpelled rows (u32_at file at) (λ place row. row ≡ u16_at file (at + 4 + place * 2))

-- at offset 0 stands none
abbrev pub ListsTypes : List ℕ → ℕ → List ℕ → Type 0
ListsTypes file at rows = ((at ≡ 0) × (rows ≡ [])) ⊎ ((at ≢ 0) × SpellsTypes file at rows)

-- a row of texts is the offset of a text item
abbrev pub TextSpelled : List ℕ → ℕ → List ℕ → Type 0
TextSpelled file row units = SpellsText file (u32_at file (row_at file Texts row)) units

-- a row of types is the row of its descriptor's text
abbrev pub TypeSpelled : List ℕ → ℕ → ℕ → Type 0
TypeSpelled file row text = text ≡ u32_at file (row_at file Types row)

-- a row of prototypes: a short form that is not looked at, the result, and the offset of the parameters
pub record PrototypeSpelled (file : List ℕ) (row : ℕ) (prototype : ProtoRow) : Type 0 where
  pub result : prototype.result ≡ u32_at file (row_at file Prototypes row + 4)
  pub params : ListsTypes file (u32_at file (row_at file Prototypes row + 8)) prototype.params

-- a row of fields: class, type and name
pub record FieldSpelled (file : List ℕ) (row : ℕ) (field : FieldRow) : Type 0 where
  pub class : field.class ≡ u16_at file (row_at file Fields row)
  pub kind : field.kind ≡ u16_at file (row_at file Fields row + 2)
  pub name : field.name ≡ u32_at file (row_at file Fields row + 4)

-- a row of methods: class, prototype and name
pub record MethodSpelled (file : List ℕ) (row : ℕ) (method : MethodRow) : Type 0 where
  pub class : method.class ≡ u16_at file (row_at file Methods row)
  pub proto : method.proto ≡ u16_at file (row_at file Methods row + 2)
  pub name : method.name ≡ u32_at file (row_at file Methods row + 4)

-- the row that a number stands for
abbrev pub RowStated : Option ℕ → ℕ → Type 0
RowStated None stated = stated ≡ no_row
RowStated (Some row) stated = (stated ≢ no_row) × (row ≡ stated)

-- a row of classes; its source file and its annotations are not looked at
pub record ClassSpelled (file : List ℕ) (row : ℕ) (stated : ClassRow) : Type 0 where
  pub class : stated.class ≡ u32_at file (row_at file Classes row)
  pub flags : stated.flags ≡ u32_at file (row_at file Classes row + 4)
  pub superclass : RowStated stated.superclass (u32_at file (row_at file Classes row + 8))
  pub interfaces : ListsTypes file (u32_at file (row_at file Classes row + 12)) stated.interfaces
  pub members_at : stated.members_at ≡ u32_at file (row_at file Classes row + 24)
  pub values_at : stated.values_at ≡ u32_at file (row_at file Classes row + 28)

-- the six tables, each row by itself
pub record TablesSpelled (file : List ℕ) (ids : Ids) : Type 0 where
  pub texts : EachSpelled ids.texts (row_count file Texts) (TextSpelled file)
  pub types : EachSpelled ids.types (row_count file Types) (TypeSpelled file)
  pub protos : EachSpelled ids.protos (row_count file Prototypes) (PrototypeSpelled file)
  pub fields : EachSpelled ids.fields (row_count file Fields) (FieldSpelled file)
  pub methods : EachSpelled ids.methods (row_count file Methods) (MethodSpelled file)
  pub classes : EachSpelled ids.classes (row_count file Classes) (ClassSpelled file)

-- the tables of a file that has no fault
pub record SpellsIds (file : List ℕ) (ids : Ids) : Type 0 where
  pub sound : first_fault file ≡ None
  pub tables : TablesSpelled file ids
