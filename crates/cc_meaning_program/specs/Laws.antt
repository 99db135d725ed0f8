-- The laws of resolution.
use Rattle.std.specs.Prelude.{◌≡◌, ℕ, List, Option, Some}
use Rattle.cc_meaning.specs.declared.file.Ids.{Ids}
use Rattle.cc_meaning.specs.declared.file.RawClass.{RawClass}
use Rattle.cc_meaning.specs.declared.program.Program.{Program}
use Rattle.cc_meaning_dex.specs.Descriptors.{IsDescriptor}
use Rattle.cc_meaning_dex.specs.Ids.{SpellsIds}
use Rattle.cc_meaning_dex.specs.Classes.{SpellsClasses}
use Rattle.cc_meaning_dex.specs.Rows.{descriptor_of}
use Rattle.cc_meaning_program.specs.Owners.{MethodOwner, FieldOwner}
use Rattle.cc_meaning_program.specs.Programs.{IsProgram}

-- a named method belongs to one class at most
abbrev pub OneMethodOwner : Type 0
OneMethodOwner = (ids : Ids) (classes : List RawClass) (named member this that : List ℕ) → MethodOwner ids classes named member this → MethodOwner ids classes named member that → this ≡ that

-- and so does a named field
abbrev pub OneFieldOwner : Type 0
OneFieldOwner = (ids : Ids) (classes : List RawClass) (named member this that : List ℕ) → FieldOwner ids classes named member this → FieldOwner ids classes named member that → this ≡ that

-- ---- programs

-- the descriptors of the rows of types are descriptors, as they are in each file
abbrev pub AreDescriptors : Ids → Type 0
AreDescriptors ids = (type : ℕ) (name : List ℕ) → descriptor_of ids type ≡ Some name → IsDescriptor name

-- a file's tables and classes give one program at most, for each main class that may be asked for
abbrev pub OneProgram : Type 0
OneProgram = (ids : Ids) (classes : List RawClass) (asked : Option (List ℕ)) → AreDescriptors ids → (this that : Program) → IsProgram ids classes asked this → IsProgram ids classes asked that → this ≡ that

-- ---- files

-- so are those of a file that spells its tables
abbrev pub FilesHaveDescriptors : Type 0
FilesHaveDescriptors = (file : List ℕ) (ids : Ids) → SpellsIds file ids → AreDescriptors ids

-- The program that the bytes of a file give, with a main class where one is asked for.
pub record GivesProgram (file : List ℕ) (asked : Option (List ℕ)) (program : Program) : Type 0 where
  pub ids : Ids
  pub tables : SpellsIds file ids
  pub classes : List RawClass
  pub members : SpellsClasses file ids classes
  pub is : IsProgram ids classes asked program

-- a file gives one program at most, for each main class that may be asked for
abbrev pub OneProgramOfFile : Type 0
OneProgramOfFile = (file : List ℕ) (asked : Option (List ℕ)) (this that : Program) → GivesProgram file asked this → GivesProgram file asked that → this ≡ that
