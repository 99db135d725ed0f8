-- What a file states of its members, found by numbers.
use Rattle.std.specs.Prelude.{◌≡◌, ℕ, ◌<◌, List, length, slice_get, Option, Some, option_and_then}
use Rattle.cc_meaning.specs.declared.file.FieldRow.{FieldRow}
use Rattle.cc_meaning.specs.declared.file.Ids.{Ids}
use Rattle.cc_meaning.specs.declared.file.RawClass.{RawClass}
use Rattle.cc_meaning.specs.declared.program.DexType.{DexType}
use Rattle.cc_meaning_program.specs.declared.outline.Outline.{Outline}

-- the number of the definition of the class of a number
abbrev pub definition_at : List Outline → ℕ → Option ℕ
definition_at outlines owner = option_and_then (λ (outline : Outline). outline.definition) (slice_get outlines owner)

-- the members that the file defines in it
abbrev pub members_at : List RawClass → List Outline → ℕ → Option RawClass
members_at classes outlines owner = option_and_then (slice_get classes) (definition_at outlines owner)

-- a row of fields that is there, and so are its name and, among types by rows, its type
pub record FieldRowStands (ids : Ids) (types : List (Option DexType)) (row : ℕ) : Type 0 where
  pub stated : FieldRow
  pub there : slice_get ids.fields row ≡ Some stated
  pub name : stated.name < length ids.texts
  pub ty : DexType
  pub typed : slice_get types stated.kind ≡ Some (Some ty)
