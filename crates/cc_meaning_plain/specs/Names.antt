-- What the rows of a file name: texts, types, fields and methods, each row at its own offset.
use Rattle.std.specs.Prelude.{◌≡◌, ◌≢◌, ℕ, ◌+◌, List, ◌++◌, codes}
use Rattle.cc_meaning_dex.specs.Numbers.{u16_at, u32_at, Within}
use Rattle.cc_meaning_dex.specs.Texts.{SpellsText}
use Rattle.cc_meaning_plain.specs.declared.table.Table.TheVariants.{Texts, Types, Prototypes, Fields, Methods}
use Rattle.cc_meaning_plain.specs.Tables.{row_at, IsRow}

-- a row of texts is the offset of a text item
pub record TextRow (file : List ℕ) (row : ℕ) (units : List ℕ) : Type 0 where
  pub row_stands : IsRow file Texts row
  pub text : SpellsText file (u32_at file (row_at file Texts row)) units

-- a row of types is the row of its descriptor's text
pub record TypeRow (file : List ℕ) (row : ℕ) (units : List ℕ) : Type 0 where
  pub row_stands : IsRow file Types row
  pub descriptor : TextRow file (u32_at file (row_at file Types row)) units

-- a list of one type: a count, and the type's row
pub record OneType (file : List ℕ) (at : ℕ) (units : List ℕ) : Type 0 where
  pub some : at ≢ 0
  pub within : Within file at 6
  pub count : u32_at file at ≡ 1
  pub kind : TypeRow file (u16_at file (at + 4)) units

-- a row of prototypes: a short form that is not looked at, the result's type, and the offset of the parameters' types
pub record PrototypeRow (file : List ℕ) (row : ℕ) (result parameter : List ℕ) : Type 0 where
  pub row_stands : IsRow file Prototypes row
  pub gives : TypeRow file (u32_at file (row_at file Prototypes row + 4)) result
  pub takes : OneType file (u32_at file (row_at file Prototypes row + 8)) parameter

-- a row of fields: class, type and name
pub record FieldRow (file : List ℕ) (row : ℕ) (class type name : List ℕ) : Type 0 where
  pub row_stands : IsRow file Fields row
  pub belongs : TypeRow file (u16_at file (row_at file Fields row)) class
  pub holds : TypeRow file (u16_at file (row_at file Fields row + 2)) type
  pub called : TextRow file (u32_at file (row_at file Fields row + 4)) name

-- a row of methods of one parameter: class, prototype and name
pub record MethodRow (file : List ℕ) (row : ℕ) (class result parameter name : List ℕ) : Type 0 where
  pub row_stands : IsRow file Methods row
  pub belongs : TypeRow file (u16_at file (row_at file Methods row)) class
  pub prototype : PrototypeRow file (u16_at file (row_at file Methods row + 2)) result parameter
  pub called : TextRow file (u32_at file (row_at file Methods row + 4)) name

abbrev pub IsOutField : List ℕ → ℕ → Type 0
IsOutField file row = FieldRow file row (codes "Ljava/lang/System;") (codes "Ljava/io/PrintStream;") (codes "out")

abbrev pub IsPrintln : List ℕ → ℕ → Type 0
IsPrintln file row = MethodRow file row (codes "Ljava/io/PrintStream;") (codes "V") (codes "I") (codes "println")

abbrev pub IsMain : List ℕ → List ℕ → ℕ → Type 0
IsMain file class row = MethodRow file row class (codes "V") (codes "[Ljava/lang/String;") (codes "main")

-- a row of methods is of that class, takes an int and gives one, and is named so with its types
pub record IsFunction (file class : List ℕ) (row : ℕ) (name : List ℕ) : Type 0 where
  pub bare : List ℕ
  pub method : MethodRow file row class (codes "I") (codes "I") bare
  pub whole : name ≡ bare ++ codes "(I)I"
