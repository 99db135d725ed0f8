-- Classes by their numbers, which are places among the names of a program's classes in order.
use Rattle.std.specs.Prelude.{◌≡◌, ℕ, List, map, length, slice_get, Option, Some, None, position}
use Rattle.std.specs.Str.{bytes_eq}
use Rattle.cc_meaning.specs.declared.file.ClassRow.{ClassRow}
use Rattle.cc_meaning.specs.declared.file.Ids.{Ids}
use Rattle.cc_meaning_program.specs.Named.{type_name}
use Rattle.cc_meaning_program.specs.Ancestry.{kind_of_class, superclass_named, interfaces_named}
use Rattle.cc_meaning_program.specs.declared.outline.Outline.{Outline}

-- the number of a name, where there is one
abbrev pub IsNumberOf : List (List ℕ) → Option (List ℕ) → Option ℕ → Type 0
IsNumberOf names None None = Unit {0}
IsNumberOf names (Some name) (Some number) = slice_get names number ≡ Some name
IsNumberOf names _ _ = ⊥

-- the numbers of names, in their order
abbrev pub AreNumbersOf : List (List ℕ) → List (List ℕ) → List ℕ → Type 0
AreNumbersOf names given numbers = map (slice_get names) numbers ≡ map Some given

-- the number of the first definition of a class
unfoldable pub definition_number : Ids → List ℕ → Option ℕ
definition_number ids name = position (λ (stated : ClassRow). bytes_eq (type_name ids stated.class) name) ids.classes

-- what a file says of the class of a name
pub record IsOutline (ids : Ids) (names : List (List ℕ)) (name : List ℕ) (outline : Outline) : Type 0 where
  pub kind : outline.kind ≡ kind_of_class ids name
  pub definition : outline.definition ≡ definition_number ids name
  pub superclass : IsNumberOf names (superclass_named ids name) outline.superclass
  pub interfaces : AreNumbersOf names (interfaces_named ids name) outline.interfaces

-- each of these is that of the class of its number
pub record AreOutlines (ids : Ids) (names : List (List ℕ)) (outlines : List Outline) : Type 0 where
  pub all : length outlines ≡ length names
  pub each : (number : ℕ) (name : List ℕ) (outline : Outline) → slice_get names number ≡ Some name → slice_get outlines number ≡ Some outline → IsOutline ids names name outline
