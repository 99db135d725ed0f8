-- One program is spelled, or a fault is found.
use Rattle.std.proofs.Common.{◌≡◌, ◌≢◌, List, Option, ℕ, refl, sym, subst}
use Rattle.cc_meaning.specs.declared.fault.DexFault.{DexFault}
use Rattle.cc_meaning.specs.declared.fault.DexFault.TheVariants as dex
use Rattle.cc_meaning.specs.declared.fault.ProgramFault.{ProgramFault}
use Rattle.cc_meaning.specs.declared.fault.ProgramFault.TheVariants as program
use Rattle.cc_meaning.specs.declared.file.Ids.{Ids}
use Rattle.cc_meaning.specs.declared.file.RawClass.{RawClass}
use Rattle.cc_meaning.specs.declared.program.Program.{Program}
use Rattle.cc_meaning_dex.specs.Classes.{SpellsClasses}
use Rattle.cc_meaning_dex.specs.ClassLaws.{OneClasses}
use Rattle.cc_meaning_dex.specs.Ids.{SpellsIds}
use Rattle.cc_meaning_dex.specs.TableLaws.{OneIds}
use Rattle.cc_meaning_program.specs.BodyFaults.{IsBodyFault, HaveSoundBodies, SoundBodiesHaveNone}
use Rattle.cc_meaning_program.specs.ClassFaults.{AreSound, IsClassFault, SoundClassesHaveNoFault}
use Rattle.cc_meaning_program.specs.Laws.{OneProgram, FilesHaveDescriptors}
use Rattle.cc_meaning_program.specs.Programs.{IsProgram, IsMainClass}
use Rattle.cc_meaning_program.specs.Faults.{IsProgramFault}
use Rattle.cc_meaning_program.specs.Reading.{SpellsProgram, IsReadFault, OneSpelledProgram, dex_fault, program_fault}
use Rattle.cc_meaning_program.specs.declared.read_fault.ReadFault.{ReadFault}
use Rattle.cc_meaning_program.specs.declared.read_fault.ReadFault.TheVariants as faults

-- what the tables and classes that a file spells are
same_ids : OneIds → (file : List ℕ) (asked : Option (List ℕ)) (spelled : Program) (ids : Ids) → SpellsIds file ids → (is : SpellsProgram file asked spelled) → is.ids ≡ ids
same_ids one file asked spelled ids tables is = one file is.ids ids is.tables tables

same_classes : OneIds → OneClasses → (file : List ℕ) (asked : Option (List ℕ)) (spelled : Program) (ids : Ids) (classes : List RawClass) → SpellsIds file ids → SpellsClasses file ids classes → (is : SpellsProgram file asked spelled) → is.classes ≡ classes
same_classes one_ids one_classes file asked spelled ids classes tables members is =
    one_classes file ids is.classes classes (subst (λ i. SpellsClasses file i is.classes) (same_ids one_ids file asked spelled ids tables is) is.members) members

pub one_spelled : OneIds → OneClasses → FilesHaveDescriptors → OneProgram → OneSpelledProgram
one_spelled one_ids one_classes descriptors one_program file asked this that one two =
    let ids = same_ids one_ids file asked this two.ids two.tables one in
    let classes = same_classes one_ids one_classes file asked this two.ids two.classes two.tables two.members one in
    let first : IsProgram two.ids two.classes asked this = subst (λ c. IsProgram two.ids c asked this) classes (subst (λ i. IsProgram i one.classes asked this) ids one.is) in
    one_program two.ids two.classes asked (descriptors file two.ids two.tables) this that first two.is

-- ---- faults

-- a program that is spelled has no fault
no_fault : SoundClassesHaveNoFault → SoundBodiesHaveNone → (ids : Ids) (classes : List RawClass) (asked : Option (List ℕ)) (spelled : Program) (fault : ProgramFault) → AreSound ids classes → HaveSoundBodies ids classes → IsProgram ids classes asked spelled →
    IsProgramFault ids classes asked fault → ⊥
no_fault sound_none bodies_none ids classes asked spelled fault sound bodies is (IsProgramFault.of_classes faulty) = sound_none ids classes fault sound faulty
no_fault sound_none bodies_none ids classes asked spelled fault sound bodies is (IsProgramFault.of_bodies classes_sound faulty) = bodies_none ids classes fault bodies faulty
no_fault sound_none bodies_none ids classes asked spelled _ sound bodies is (IsProgramFault.no_main classes_sound bodies_sound none) = none is.main_class is.main_is

pub tables_refused : (file : List ℕ) (asked : Option (List ℕ)) → ((ids : Ids) → ¬ SpellsIds file ids) → (spelled : Program) → SpellsProgram file asked spelled → ⊥
tables_refused file asked none spelled is = none is.ids is.tables

pub classes_refused : OneIds → (file : List ℕ) (asked : Option (List ℕ)) (ids : Ids) → SpellsIds file ids → ((classes : List RawClass) → ¬ SpellsClasses file ids classes) → (spelled : Program) → SpellsProgram file asked spelled → ⊥
classes_refused one file asked ids tables none spelled is = none is.classes (subst (λ i. SpellsClasses file i is.classes) (same_ids one file asked spelled ids tables is) is.members)

pub program_refused : OneIds → OneClasses → SoundClassesHaveNoFault → SoundBodiesHaveNone → (file : List ℕ) (asked : Option (List ℕ)) (ids : Ids) (classes : List RawClass) (fault : ProgramFault) → SpellsIds file ids → SpellsClasses file ids classes →
    IsProgramFault ids classes asked fault → (spelled : Program) → SpellsProgram file asked spelled → ⊥
program_refused one_ids one_classes sound_none bodies_none file asked ids classes fault tables members faulty spelled is =
    let same = same_ids one_ids file asked spelled ids tables is in
    let alike = same_classes one_ids one_classes file asked spelled ids classes tables members is in
    no_fault sound_none bodies_none ids classes asked spelled fault
    (subst (λ c. AreSound ids c) alike (subst (λ i. AreSound i is.classes) same is.sound))
    (subst (λ c. HaveSoundBodies ids c) alike (subst (λ i. HaveSoundBodies i is.classes) same is.bodies))
    (subst (λ c. IsProgram ids c asked spelled) alike (subst (λ i. IsProgram i is.classes asked spelled) same is.is))
    faulty

-- a fault that isn't want of memory is said as it is
pub dex_said : (given : DexFault) (fault : ReadFault) → fault ≡ dex_fault given → fault ≢ faults.Memory → (given ≢ dex.Memory) × (fault ≡ faults.Dex given)
unfolding dex_fault
dex_said dex.Memory fault is other = absurd (other is)
dex_said given fault is other = (λ same. absurd cc, is)

pub program_said : (given : ProgramFault) (fault : ReadFault) → fault ≡ program_fault given → fault ≢ faults.Memory → (given ≢ program.Memory) × (fault ≡ faults.Program given)
unfolding program_fault
program_said program.Memory fault is other = absurd (other is)
program_said given fault is other = (λ same. absurd cc, is)
