-- What rows of members are among the members of a program.
use Rattle.std.specs.Prelude.{◌≡◌, ℕ, List, length, slice_get, Option, Some, Contains}
use Rattle.cc_meaning.specs.declared.file.Ids.{Ids}
use Rattle.cc_meaning.specs.declared.file.RawClass.{RawClass}
use Rattle.cc_meaning_program.specs.Naming.{RowNamesMethod, RowNamesField}
use Rattle.cc_meaning_program.specs.Resolved.{whole_name}
use Rattle.cc_meaning_program.specs.declared.links.MethodLink.{MethodLink}
use Rattle.cc_meaning_program.specs.declared.uses.MethodUse.{MethodUse}
use Rattle.cc_meaning_program.specs.Links.{IsMethodLink, IsFieldLink}

-- ---- methods

-- what a row of methods is among methods of these whole names, where the method that it names is one of them
pub record IsMethodLinked (ids : Ids) (classes : List RawClass) (names methods : List (List ℕ)) (row : ℕ) (linked : Option MethodLink) : Type 0 where
  pub is : (link : MethodLink) → linked ≡ Some link → IsMethodLink ids classes names methods row link
  pub some : (owner member : List ℕ) → RowNamesMethod ids classes row owner member → Contains methods (whole_name owner member) → (link : MethodLink) × (linked ≡ Some link)

-- for each row of methods what it is, where it is one of a program's; all that are used are so
pub record AreMethodLinks (ids : Ids) (classes : List RawClass) (names methods : List (List ℕ)) (uses : List MethodUse) (links : List (Option MethodLink)) : Type 0 where
  pub rows : length links ≡ length ids.methods
  pub each : (row : ℕ) (link : MethodLink) → slice_get links row ≡ Some (Some link) → IsMethodLink ids classes names methods row link
  pub all : (used : MethodUse) → Contains uses used → (link : MethodLink) × (slice_get links used.row ≡ Some (Some link))

-- the first so many rows are linked
pub record LinkMethods (ids : Ids) (classes : List RawClass) (names methods : List (List ℕ)) (count : ℕ) (links : List (Option MethodLink)) : Type 0 where
  pub rows : length links ≡ count
  pub each : (row : ℕ) (linked : Option MethodLink) → slice_get links row ≡ Some linked → IsMethodLinked ids classes names methods row linked

-- ---- fields

pub record IsFieldLinked (ids : Ids) (classes : List RawClass) (fields : List (List ℕ)) (row : ℕ) (linked : Option ℕ) : Type 0 where
  pub is : (number : ℕ) → linked ≡ Some number → IsFieldLink ids classes fields row number
  pub some : (owner member : List ℕ) → RowNamesField ids classes row owner member → Contains fields (whole_name owner member) → (number : ℕ) × (linked ≡ Some number)

-- the same for fields
pub record AreFieldLinks (ids : Ids) (classes : List RawClass) (fields : List (List ℕ)) (uses : List ℕ) (links : List (Option ℕ)) : Type 0 where
  pub rows : length links ≡ length ids.fields
  pub each : (row number : ℕ) → slice_get links row ≡ Some (Some number) → IsFieldLink ids classes fields row number
  pub all : (row : ℕ) → Contains uses row → (number : ℕ) × (slice_get links row ≡ Some (Some number))

pub record LinkFields (ids : Ids) (classes : List RawClass) (fields : List (List ℕ)) (count : ℕ) (links : List (Option ℕ)) : Type 0 where
  pub rows : length links ≡ count
  pub each : (row : ℕ) (linked : Option ℕ) → slice_get links row ≡ Some linked → IsFieldLinked ids classes fields row linked
