-- What is known of names and their numbers before outlines are made.
use Rattle.std.specs.Prelude.{◌≡◌, ◌<◌, ◌^◌, ℕ, List, length, slice_get, Option, Some, Contains, MatchOption}
use Rattle.cc_meaning.specs.declared.file.Ids.{Ids}
use Rattle.cc_meaning.specs.BuiltIn.{object_name, exception_name, error_name}
use Rattle.cc_meaning_program.specs.ClassNames.{AreClassNames}
use Rattle.cc_meaning_program.specs.Outlines.{IsOutline}
use Rattle.cc_meaning_program.specs.Rows.{FitTables}
use Rattle.cc_meaning_program.specs.declared.outline.Outline.{Outline}
use Rattle.cc_hierarchy.specs.Indexes.{Indexes}
use Rattle.cc_hierarchy.specs.declared.sources.Roots.{Roots}
use Rattle.cc_hierarchy.specs.declared.sources.Sources.{Sources}

-- the number of a name, where it is among these
abbrev pub IsPlaceOf : List (List ℕ) → List ℕ → Option ℕ → Type 0
IsPlaceOf names name place = MatchOption place (Contains names name → ⊥) (λ number. slice_get names number ≡ Some name)

-- for each of the first texts the number that it has among these names
pub record AreFirstNumbers (names texts : List (List ℕ)) (count : ℕ) (numbers : List (Option ℕ)) : Type 0 where
  pub all : length numbers ≡ count
  pub each : (row : ℕ) (text : List ℕ) (number : Option ℕ) → slice_get texts row ≡ Some text → slice_get numbers row ≡ Some number → IsPlaceOf names text number

abbrev pub AreTextNumbers : List (List ℕ) → List (List ℕ) → List (Option ℕ) → Type 0
AreTextNumbers names texts numbers = AreFirstNumbers names texts (length texts) numbers

pub record AreRoots (names : List (List ℕ)) (roots : Roots) : Type 0 where
  pub object : slice_get names roots.object ≡ Some object_name
  pub exception : slice_get names roots.exception ≡ Some exception_name
  pub error : slice_get names roots.error ≡ Some error_name

-- all that outlines are made from
pub record AreReady (sources : Sources) : Type 0 where
  pub tables : FitTables sources.ids.now
  pub names : AreClassNames sources.ids.now sources.names.now
  pub few : length sources.names.now < 2 ^ 32
  pub index : Indexes sources.ids.now sources.definitions.now
  pub numbers : AreTextNumbers sources.names.now sources.ids.now.texts sources.by_text.now
  pub roots : AreRoots sources.names.now sources.roots

-- the outlines of the classes of the first names
pub record AreFirstOutlines (ids : Ids) (names : List (List ℕ)) (count : ℕ) (outlines : List Outline) : Type 0 where
  pub all : length outlines ≡ count
  pub each : (number : ℕ) (name : List ℕ) (outline : Outline) → slice_get names number ≡ Some name → slice_get outlines number ≡ Some outline → IsOutline ids names name outline
