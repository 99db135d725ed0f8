-- Why a file's tables and classes give no program.
use Rattle.std.specs.Prelude.{ℕ, List, Option}
use Rattle.cc_meaning.specs.declared.fault.ProgramFault.{ProgramFault}
use Rattle.cc_meaning.specs.declared.fault.ProgramFault.TheVariants as faults
use Rattle.cc_meaning.specs.declared.file.Ids.{Ids}
use Rattle.cc_meaning.specs.declared.file.RawClass.{RawClass}
use Rattle.cc_meaning_program.specs.BodyFaults.{IsBodyFault, HaveSoundBodies}
use Rattle.cc_meaning_program.specs.ClassFaults.{AreSound, IsClassFault}
use Rattle.cc_meaning_program.specs.Programs.{IsMainClass}

-- The first fault: of the classes; or else of their members and code; or else that no class has the main method that is asked for.
pub data IsProgramFault (ids : Ids) (classes : List RawClass) (asked : Option (List ℕ)) : ProgramFault → Type 0 where
  of_classes : {fault : ProgramFault} → IsClassFault ids classes fault → IsProgramFault ids classes asked fault
  of_bodies : {fault : ProgramFault} → AreSound ids classes → IsBodyFault ids classes fault → IsProgramFault ids classes asked fault
  no_main : AreSound ids classes → HaveSoundBodies ids classes → ((class : List ℕ) → ¬ IsMainClass ids classes asked class) → IsProgramFault ids classes asked faults.NoMain
