-- A field of a program as it is made from its plan.
use Rattle.std.specs.Prelude.{◌≡◌, ℕ, Bool, true, List, slice_get, Option, Some}
use Rattle.cc_meaning.specs.declared.file.FieldRow.{FieldRow}
use Rattle.cc_meaning.specs.declared.file.Ids.{Ids}
use Rattle.cc_meaning.specs.declared.file.RawClass.{RawClass}
use Rattle.cc_meaning.specs.declared.file.RawField.{RawField}
use Rattle.cc_meaning.specs.declared.program.DexType.{DexType}
use Rattle.cc_meaning.specs.declared.program.Field.{Field}
use Rattle.cc_meaning.specs.BuiltIn.{out_name, print_stream_name}
use Rattle.cc_meaning_program.specs.Named.{text_of}
use Rattle.cc_meaning_program.specs.TypeNames.{Spells}
use Rattle.cc_meaning_program.specs.OwnerNumbers.{field_in}
use Rattle.cc_meaning_program.specs.declared.outline.Outline.{Outline}
use Rattle.cc_meaning_program.specs.declared.plan.FieldSource.{FieldSource}
use Rattle.cc_meaning_program.specs.declared.plan.FieldSource.TheVariants as from
use Rattle.cc_members.specs.Stated.{members_at, FieldRowStands}

-- what a field is made from is there
abbrev pub FieldCanBeMade : Ids → List RawClass → List (List ℕ) → List Outline → List (Option DexType) → ℕ → FieldSource → Type 0
FieldCanBeMade ids classes names outlines types owner (from.File place) = (raw : RawField) × (field_in place (members_at classes outlines owner) ≡ Some raw) × FieldRowStands ids types raw.row
FieldCanBeMade ids classes names outlines types owner from.Out = (ty : DexType) × Spells names ty print_stream_name
FieldCanBeMade ids classes names outlines types owner (from.Outside row) = FieldRowStands ids types row

-- a field of a class with the name and the type of a row
pub record FieldOfRow (ids : Ids) (types : List (Option DexType)) (owner row : ℕ) (is_static : Bool) (field : Field) : Type 0 where
  pub stated : FieldRow
  pub there : slice_get ids.fields row ≡ Some stated
  pub class : field.class ≡ owner
  pub name : field.name ≡ text_of ids stated.name
  pub ty : slice_get types stated.kind ≡ Some (Some field.ty)
  pub static : field.is_static ≡ is_static

pub record OutOf (names : List (List ℕ)) (owner : ℕ) (field : Field) : Type 0 where
  pub class : field.class ≡ owner
  pub name : field.name ≡ out_name
  pub ty : Spells names field.ty print_stream_name
  pub static : field.is_static ≡ true

-- a field is made from its source
abbrev pub FieldMade : Ids → List RawClass → List (List ℕ) → List Outline → List (Option DexType) → ℕ → FieldSource → Field → Type 0
FieldMade ids classes names outlines types owner (from.File place) field =
    (raw : RawField) × (field_in place (members_at classes outlines owner) ≡ Some raw) × FieldOfRow ids types owner raw.row raw.is_static field
FieldMade ids classes names outlines types owner from.Out field = OutOf names owner field
FieldMade ids classes names outlines types owner (from.Outside row) field = FieldOfRow ids types owner row true field
