-- What the bytes of a file spell: one program for each main class at most, or the first fault.
use Rattle.std.specs.Prelude.{◌≡◌, ℕ, List, Option, Some}
use Rattle.cc_meaning.specs.declared.fault.DexFault.{DexFault}
use Rattle.cc_meaning.specs.declared.fault.DexFault.TheVariants as dex
use Rattle.cc_meaning.specs.declared.fault.ProgramFault.{ProgramFault}
use Rattle.cc_meaning.specs.declared.fault.ProgramFault.TheVariants as program
use Rattle.cc_meaning.specs.declared.file.Ids.{Ids}
use Rattle.cc_meaning.specs.declared.file.RawClass.{RawClass}
use Rattle.cc_meaning.specs.declared.program.Program.{Program}
use Rattle.cc_meaning_dex.specs.Faults.{first_fault}
use Rattle.cc_meaning_dex.specs.Ids.{SpellsIds}
use Rattle.cc_meaning_dex.specs.Causes.{IsFirstCause}
use Rattle.cc_meaning_dex.specs.Classes.{SpellsClasses}
use Rattle.cc_meaning_program.specs.BodyFaults.{HaveSoundBodies}
use Rattle.cc_meaning_program.specs.ClassFaults.{AreSound}
use Rattle.cc_meaning_program.specs.Programs.{IsProgram}
use Rattle.cc_meaning_program.specs.Faults.{IsProgramFault}
use Rattle.cc_meaning_program.specs.declared.read_fault.ReadFault.{ReadFault}
use Rattle.cc_meaning_program.specs.declared.read_fault.ReadFault.TheVariants as faults

-- The tables and the classes that the file spells have no fault, and give this program.
pub record SpellsProgram (file : List ℕ) (asked : Option (List ℕ)) (spelled : Program) : Type 0 where
  pub ids : Ids
  pub tables : SpellsIds file ids
  pub classes : List RawClass
  pub members : SpellsClasses file ids classes
  pub sound : AreSound ids classes
  pub bodies : HaveSoundBodies ids classes
  pub is : IsProgram ids classes asked spelled

-- The first fault of a file: of its header and tables; or else of its classes' data; or else of its program.
pub data IsReadFault (file : List ℕ) (asked : Option (List ℕ)) : ReadFault → Type 0 where
  of_tables : {fault : DexFault} → first_fault file ≡ Some fault → IsReadFault file asked (faults.Dex fault)
  of_classes : {ids : Ids} {fault : DexFault} → SpellsIds file ids → IsFirstCause file ids fault → IsReadFault file asked (faults.Dex fault)
  of_program : {ids : Ids} {classes : List RawClass} {fault : ProgramFault} → SpellsIds file ids → SpellsClasses file ids classes → IsProgramFault ids classes asked fault → IsReadFault file asked (faults.Program fault)

-- ---- what is said of a part's fault

-- want of memory is said in one way
unfoldable pub dex_fault : DexFault → ReadFault
dex_fault dex.Memory = faults.Memory
dex_fault fault = faults.Dex fault

unfoldable pub program_fault : ProgramFault → ReadFault
program_fault program.Memory = faults.Memory
program_fault fault = faults.Program fault

-- ---- laws

-- a file spells one program at most, for each main class that may be asked for
abbrev pub OneSpelledProgram : Type 0
OneSpelledProgram = (file : List ℕ) (asked : Option (List ℕ)) (this that : Program) → SpellsProgram file asked this → SpellsProgram file asked that → this ≡ that
