-- What makes a row fit, by what is spelled and without a test of the tables.
use Rattle.std.specs.Prelude.{◌≡◌, ◌↔◌, ◌⊎◌, ℕ, ◌+◌, Bool, List, slice_get, Some, None, IsTrue}
use Rattle.cc_meaning_dex.specs.declared.table.Table.{Table}
use Rattle.cc_meaning_dex.specs.declared.table.Table.TheVariants.{Texts, Types, Prototypes, Fields, Methods, Classes}
use Rattle.cc_meaning_dex.specs.Numbers.{u16_at, u32_at}
use Rattle.cc_meaning_dex.specs.Tables.{row_at, IsHeader, HasTables, IsRow}
use Rattle.cc_meaning_dex.specs.Descriptors.{IsPaired, IsDescriptor, names_class, names_reference, names_value}
use Rattle.cc_meaning_dex.specs.Faults.{type_text, params_at, interfaces_at, no_row, list_fault, listed_types, first_fault}
use Rattle.cc_meaning_dex.specs.Ids.{TextSpelled, ListsTypes}

-- a row of texts that is there, and its units
pub record TextAt (file : List ℕ) (row : ℕ) (units : List ℕ) : Type 0 where
  pub there : IsRow file Texts row
  pub spelled : TextSpelled file row units

-- a row of types that is there, whose descriptor is of a sort
pub record TypeOf (sort : List ℕ → Bool) (file : List ℕ) (row : ℕ) : Type 0 where
  pub there : IsRow file Types row
  pub units : List ℕ
  pub descriptor : TextAt file (type_text file row) units
  pub sorted : IsTrue (sort units)

-- a row of texts that is there and has no half of a pair alone
pub record NameAt (file : List ℕ) (row : ℕ) : Type 0 where
  pub units : List ℕ
  pub text : TextAt file row units
  pub paired : IsPaired units

pub record TypeFits (file : List ℕ) (row : ℕ) : Type 0 where
  pub units : List ℕ
  pub text : TextAt file (type_text file row) units
  pub descriptor : IsDescriptor units

-- the types that are listed at a place, each of a sort
pub record TypesOf (sort : List ℕ → Bool) (file : List ℕ) (at : ℕ) : Type 0 where
  pub types : List ℕ
  pub listed : ListsTypes file at types
  pub each : (place type : ℕ) → slice_get types place ≡ Some type → TypeOf sort file type

pub record PrototypeFits (file : List ℕ) (row : ℕ) : Type 0 where
  pub result : IsRow file Types (u32_at file (row_at file Prototypes row + 4))
  pub params : TypesOf names_value file (params_at file row)

pub record FieldFits (file : List ℕ) (row : ℕ) : Type 0 where
  pub class : TypeOf names_reference file (u16_at file (row_at file Fields row))
  pub kind : TypeOf names_value file (u16_at file (row_at file Fields row + 2))
  pub name : NameAt file (u32_at file (row_at file Fields row + 4))

pub record MethodFits (file : List ℕ) (row : ℕ) : Type 0 where
  pub class : TypeOf names_reference file (u16_at file (row_at file Methods row))
  pub prototype : IsRow file Prototypes (u16_at file (row_at file Methods row + 2))
  pub name : NameAt file (u32_at file (row_at file Methods row + 4))

pub record ClassFits (file : List ℕ) (row : ℕ) : Type 0 where
  pub class : TypeOf names_class file (u32_at file (row_at file Classes row))
  pub superclass : (u32_at file (row_at file Classes row + 8) ≡ no_row) ⊎ TypeOf names_reference file (u32_at file (row_at file Classes row + 8))
  pub interfaces : TypesOf names_reference file (interfaces_at file row)

abbrev pub RowFits : List ℕ → Table → ℕ → Type 0
RowFits file Texts row = (units : List ℕ) × TextSpelled file row units
RowFits file Types row = TypeFits file row
RowFits file Prototypes row = PrototypeFits file row
RowFits file Fields row = FieldFits file row
RowFits file Methods row = MethodFits file row
RowFits file Classes row = ClassFits file row

-- a file whose header is one, whose tables lie in it, and whose rows all fit
pub record IsWellFormed (file : List ℕ) : Type 0 where
  pub header : IsHeader file
  pub tables : HasTables file
  pub rows : (table : Table) (row : ℕ) → IsRow file table row → RowFits file table row

-- such a file, and no other, has no fault
abbrev pub WellFormedFiles : Type 0
WellFormedFiles = (file : List ℕ) → (first_fault file ≡ None) ↔ IsWellFormed file

-- what is listed at an offset is what is spelled there
abbrev pub TypesListed : Type 0
TypesListed = (file : List ℕ) (at : ℕ) (rows : List ℕ) → ((list_fault file at ≡ None) × (rows ≡ listed_types file at)) ↔ ListsTypes file at rows
