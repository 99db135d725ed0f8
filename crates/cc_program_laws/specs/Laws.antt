-- What each program of a file is.
use Rattle.std.specs.Prelude.{◌≡◌, ℕ, true, false, ◌≤◌, ◌^◌, List, length, slice_get, Option, Some, is_some}
use Rattle.cc_meaning.specs.declared.file.Ids.{Ids}
use Rattle.cc_meaning.specs.declared.file.RawClass.{RawClass}
use Rattle.cc_meaning.specs.declared.file.RawMethod.{RawMethod}
use Rattle.cc_meaning.specs.declared.program.Program.{Program}
use Rattle.cc_meaning_dex.specs.Ids.{SpellsIds}
use Rattle.cc_meaning_dex.specs.Classes.{SpellsClasses}
use Rattle.cc_meaning_dex.specs.CodeItems.{has_flag}
use Rattle.cc_meaning_program.specs.ClassFaults.{AreSound}
use Rattle.cc_meaning_program.specs.CodeSizes.{HaveFewUnits}
use Rattle.cc_meaning_program.specs.Programs.{IsProgram}
use Rattle.cc_meaning_program.specs.Rows.{FitTables, FitClasses}
use Rattle.cc_meaning_typing.specs.Hierarchy.{IsHierarchy}
use Rattle.cc_meaning_typing.specs.WellFormed.{IsWellFormed}
use Rattle.cc_meaning_typing.specs.Complete.{IsComplete}

-- A program of sound classes is well formed: its classes lead to Object, and its names and addresses are in order.
abbrev pub ProgramsAreWellFormed : Type 0
ProgramsAreWellFormed = (ids : Ids) (classes : List RawClass) (asked : Option (List ℕ)) (program : Program) → FitTables ids → AreSound ids classes → HaveFewUnits classes → length program.classes ≤ 2 ^ 32 → IsProgram ids classes asked program → IsWellFormed program

-- The classes of a program of sound classes lead to Object, however many there are.
abbrev pub ProgramsAreHierarchies : Type 0
ProgramsAreHierarchies = (ids : Ids) (classes : List RawClass) (asked : Option (List ℕ)) (program : Program) → FitTables ids → AreSound ids classes → IsProgram ids classes asked program → IsHierarchy program

-- ---- what a file's length bounds

-- no table has more rows than a file of 8 MiB has words
pub record HasFewRows (ids : Ids) : Type 0 where
  pub texts : length ids.texts ≤ 2 ^ 21
  pub types : length ids.types ≤ 2 ^ 21
  pub fields : length ids.fields ≤ 2 ^ 21
  pub methods : length ids.methods ≤ 2 ^ 21

-- what has code is neither native nor abstract
abbrev pub IsPlainlyCoded : RawMethod → Type 0
IsPlainlyCoded method = is_some method.code ≡ true → (has_flag method.flags 256 ≡ false) × (has_flag method.flags 1024 ≡ false)

abbrev pub ArePlainlyCoded : List RawClass → Type 0
ArePlainlyCoded classes = (number place : ℕ) (class : RawClass) (method : RawMethod) → slice_get classes number ≡ Some class → slice_get class.methods place ≡ Some method → IsPlainlyCoded method

-- what is spelled in a file is bounded by the file's length
pub record IsBounded (ids : Ids) (classes : List RawClass) : Type 0 where
  pub rows : HasFewRows ids
  pub units : HaveFewUnits classes
  pub coded : ArePlainlyCoded classes

abbrev pub SpelledPartsAreBounded : Type 0
SpelledPartsAreBounded = (file : List ℕ) (ids : Ids) (classes : List RawClass) → SpellsIds file ids → SpellsClasses file ids classes → IsBounded ids classes

-- Such a program is complete: besides being well formed, it has the built-in classes, and all that it names is there.
abbrev pub ProgramsAreComplete : Type 0
ProgramsAreComplete = (ids : Ids) (classes : List RawClass) (asked : Option (List ℕ)) (program : Program) → FitTables ids → FitClasses ids classes → AreSound ids classes → IsBounded ids classes → IsProgram ids classes asked program → IsComplete program
