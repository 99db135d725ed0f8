-- The faults of a program's parts are the program's.
use Rattle.std.proofs.Common.{◌≡◌, ◌≢◌, ℕ, List, Option, Result, Ok, Err, refl, sym, subst}
use Rattle.std.specs.Prelude.{IfErr}
use Rattle.cc_meaning.specs.declared.fault.ProgramFault.{ProgramFault}
use Rattle.cc_meaning.specs.declared.fault.ProgramFault.TheVariants as faults
use Rattle.cc_meaning.specs.declared.file.Ids.{Ids}
use Rattle.cc_meaning.specs.declared.file.RawClass.{RawClass}
use Rattle.cc_meaning.specs.declared.program.Program.{Program}
use Rattle.cc_meaning_program.specs.BodyFaults.{HaveSoundBodies}
use Rattle.cc_meaning_program.specs.ClassFaults.{AreSound}
use Rattle.cc_meaning_program.specs.Programs.{IsMainClass}
use Rattle.cc_meaning_program.specs.Faults.{IsProgramFault}

-- where no class has the main method that is asked for
pub none_asked : (ids : Ids) (classes : List RawClass) (asked : Option (List ℕ)) → AreSound ids classes → HaveSoundBodies ids classes → (r : Result Program ProgramFault) →
    IfErr r (λ fault. fault ≢ faults.Memory → (fault ≡ faults.NoMain) × ((class : List ℕ) → ¬ IsMainClass ids classes asked class)) → IfErr r (λ fault. fault ≢ faults.Memory → IsProgramFault ids classes asked fault)
none_asked ids classes asked sound bodies (Ok program) is = tt
none_asked ids classes asked sound bodies (Err fault) is = λ other. subst (IsProgramFault ids classes asked) (sym (is other).0) (IsProgramFault.no_main sound bodies (is other).1)
