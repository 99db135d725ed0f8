-- The numbers that stand in a program's code in place of rows.
use Rattle.std.specs.Prelude.{◌≡◌, ℕ, List, map, length, slice_get, Option, Some, Contains}
use Rattle.cc_meaning.specs.declared.file.Ids.{Ids}
use Rattle.cc_meaning.specs.declared.file.MethodRow.{MethodRow}
use Rattle.cc_meaning.specs.declared.file.RawClass.{RawClass}
use Rattle.cc_meaning.specs.declared.program.DexType.{DexType}
use Rattle.cc_meaning.specs.declared.program.Program.{Program}
use Rattle.cc_meaning.specs.Names.{field_name, method_name}
use Rattle.cc_meaning_program.specs.Named.{type_name}
use Rattle.cc_meaning_program.specs.TypeNames.{IsTypeOf}
use Rattle.cc_meaning_program.specs.Naming.{RowNamesMethod, RowNamesField}
use Rattle.cc_meaning_program.specs.Resolved.{names_of, whole_name}
use Rattle.cc_meaning_program.specs.declared.links.Links.{Links}
use Rattle.cc_meaning_program.specs.declared.links.MethodLink.{MethodLink}
use Rattle.cc_meaning_program.specs.declared.uses.MethodUse.{MethodUse}

-- a row of methods has the number of the class that it names, and of the method that it names after resolution, among these whole names
pub record IsMethodLink (ids : Ids) (classes : List RawClass) (names methods : List (List ℕ)) (row : ℕ) (link : MethodLink) : Type 0 where
  pub stated : MethodRow
  pub there : slice_get ids.methods row ≡ Some stated
  pub class : slice_get names link.class ≡ Some (type_name ids stated.class)
  pub owner : List ℕ
  pub member : List ℕ
  pub named : RowNamesMethod ids classes row owner member
  pub numbered : slice_get methods link.number ≡ Some (whole_name owner member)

pub record IsFieldLink (ids : Ids) (classes : List RawClass) (fields : List (List ℕ)) (row number : ℕ) : Type 0 where
  pub owner : List ℕ
  pub member : List ℕ
  pub named : RowNamesField ids classes row owner member
  pub numbered : slice_get fields number ≡ Some (whole_name owner member)

-- For rows of texts the numbers of the texts, for rows of types the types, and for rows of members, where instructions use them, what they name.
pub record AreLinks (ids : Ids) (classes : List RawClass) (names texts methods fields : List (List ℕ)) (method_uses : List MethodUse) (field_uses : List ℕ) (links : Links) : Type 0 where
  pub text_numbers : map (slice_get texts) links.texts ≡ map Some ids.texts
  pub all_types : length links.types ≡ length ids.types
  pub each_type : (row : ℕ) (type : Option DexType) → slice_get links.types row ≡ Some type → IsTypeOf names (type_name ids row) type
  pub each_method : (row : ℕ) (link : MethodLink) → slice_get links.methods row ≡ Some (Some link) → IsMethodLink ids classes names methods row link
  pub all_methods : (used : MethodUse) → Contains method_uses used → (link : MethodLink) × (slice_get links.methods used.row ≡ Some (Some link))
  pub each_field : (row number : ℕ) → slice_get links.fields row ≡ Some (Some number) → IsFieldLink ids classes fields row number
  pub all_fields : (row : ℕ) → Contains field_uses row → (number : ℕ) × (slice_get links.fields row ≡ Some (Some number))

-- a program's classes, texts, methods and fields have these names
pub record HasNames (program : Program) (names texts methods fields : List (List ℕ)) : Type 0 where
  pub of_classes : names_of program ≡ names
  pub of_texts : program.texts ≡ texts
  pub of_methods : map (method_name program) program.methods ≡ methods
  pub of_fields : map (field_name program) program.fields ≡ fields
