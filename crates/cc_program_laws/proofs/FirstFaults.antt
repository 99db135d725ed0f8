-- A file has one first fault, or spells a program.
use Rattle.std.proofs.Common.{◌≡◌, ℕ, List, Option, Some, refl, sym, ap, ◌∙◌, subst}
use Rattle.cc_meaning.specs.declared.fault.DexFault.{DexFault}
use Rattle.cc_meaning.specs.declared.fault.ProgramFault.{ProgramFault}
use Rattle.cc_meaning.specs.declared.file.Ids.{Ids}
use Rattle.cc_meaning.specs.declared.file.RawClass.{RawClass}
use Rattle.cc_meaning.specs.declared.program.Program.{Program}
use Rattle.cc_meaning_dex.specs.Causes.{IsFirstCause}
use Rattle.cc_meaning_dex.specs.Classes.{SpellsClasses}
use Rattle.cc_meaning_dex.specs.ClassLaws.{MembersAgree, OneClasses}
use Rattle.cc_meaning_dex.specs.Faults.{first_fault}
use Rattle.cc_meaning_dex.specs.Ids.{SpellsIds}
use Rattle.cc_meaning_dex.specs.TableLaws.{OneIds}
use Rattle.cc_meaning_program.specs.Rows.{SpelledTablesFit}
use Rattle.cc_meaning_program.specs.BodyFaults.{HaveSoundBodies, OneBodyFault, SoundBodiesHaveNone}
use Rattle.cc_meaning_program.specs.ClassFaults.{AreSound, OneClassFault, SoundClassesHaveNoFault}
use Rattle.cc_meaning_program.specs.Programs.{IsProgram}
use Rattle.cc_meaning_program.specs.Faults.{IsProgramFault}
use Rattle.cc_meaning_program.specs.Reading.{IsReadFault}
use Rattle.cc_meaning_program.specs.declared.read_fault.ReadFault.TheVariants as faults
use Rattle.cc_program_laws.specs.Laws.{ProgramsAreHierarchies}
use Rattle.cc_program_laws.specs.ReadingLaws.{OneReadFault, SpelledProgramsHaveNoFault, SpelledProgramsAreHierarchies}
use Rattle.cc_program_laws.proofs.FirstCauses.{one_first_cause, spelled_has_none}

-- tables that are spelled have no fault
sound_tables : (file : List ℕ) (ids : Ids) (fault : DexFault) → first_fault file ≡ Some fault → SpellsIds file ids → ⊥
sound_tables file ids fault has spelled = let none = spelled.sound in absurd cc

some_same : {A : Type 0} (x y : A) → Some x ≡ Some y → x ≡ y
some_same x y e = cc

module _ (one_class_fault : OneClassFault) (one_body_fault : OneBodyFault) (sound_classes : SoundClassesHaveNoFault) (sound_bodies : SoundBodiesHaveNone) (ids : Ids) (classes : List RawClass) (asked : Option (List ℕ)) where
  one_program_fault : (this that : ProgramFault) → IsProgramFault ids classes asked this → IsProgramFault ids classes asked that → this ≡ that
  one_program_fault this that (IsProgramFault.of_classes one) (IsProgramFault.of_classes two) = one_class_fault ids classes this that one two
  one_program_fault this that (IsProgramFault.of_classes one) (IsProgramFault.of_bodies sound two) = absurd (sound_classes ids classes this sound one)
  one_program_fault this _ (IsProgramFault.of_classes one) (IsProgramFault.no_main sound bodies none) = absurd (sound_classes ids classes this sound one)
  one_program_fault this that (IsProgramFault.of_bodies sound one) (IsProgramFault.of_classes two) = absurd (sound_classes ids classes that sound two)
  one_program_fault this that (IsProgramFault.of_bodies sound one) (IsProgramFault.of_bodies also two) = one_body_fault ids classes this that one two
  one_program_fault this _ (IsProgramFault.of_bodies sound one) (IsProgramFault.no_main also bodies none) = absurd (sound_bodies ids classes this bodies one)
  one_program_fault _ that (IsProgramFault.no_main sound bodies none) (IsProgramFault.of_classes two) = absurd (sound_classes ids classes that sound two)
  one_program_fault _ that (IsProgramFault.no_main sound bodies none) (IsProgramFault.of_bodies also two) = absurd (sound_bodies ids classes that bodies two)
  one_program_fault _ _ (IsProgramFault.no_main sound bodies none) (IsProgramFault.no_main also too nor) = refl

module _ (one_ids : OneIds) (one_classes : OneClasses) (file : List ℕ) where
  same_cause : (ids other : Ids) (fault : DexFault) → SpellsIds file ids → SpellsIds file other → IsFirstCause file other fault → IsFirstCause file ids fault
  same_cause ids other fault one two cause = subst (λ i. IsFirstCause file i fault) (one_ids file other ids two one) cause

  same_classes : (ids other : Ids) (classes : List RawClass) → SpellsIds file ids → SpellsIds file other → SpellsClasses file other classes → SpellsClasses file ids classes
  same_classes ids other classes one two spelled = subst (λ i. SpellsClasses file i classes) (one_ids file other ids two one) spelled

  same_fault : (ids other : Ids) (classes others : List RawClass) (asked : Option (List ℕ)) (fault : ProgramFault) → SpellsIds file ids → SpellsIds file other → SpellsClasses file ids classes → SpellsClasses file other others → IsProgramFault other others asked fault → IsProgramFault ids classes asked fault
  same_fault ids other classes others asked fault one two members more is =
      let all = same_classes ids other others one two more in
      subst (λ c. IsProgramFault ids c asked fault) (one_classes file ids others classes all members) (subst (λ i. IsProgramFault i others asked fault) (one_ids file other ids two one) is)

pub one_read_fault : OneIds → OneClasses → MembersAgree → OneClassFault → OneBodyFault → SoundClassesHaveNoFault → SoundBodiesHaveNone → OneReadFault
one_read_fault one_ids one_classes agree one_class one_body classes_sound bodies_sound file asked _ _ (IsReadFault.of_tables {fault = f} one) (IsReadFault.of_tables {fault = g} two) = ap faults.Dex (some_same f g (sym one ∙ two))
one_read_fault one_ids one_classes agree one_class one_body classes_sound bodies_sound file asked _ _ (IsReadFault.of_tables {fault = f} one) (IsReadFault.of_classes {ids = ids} tables two) = absurd (sound_tables file ids f one tables)
one_read_fault one_ids one_classes agree one_class one_body classes_sound bodies_sound file asked _ _ (IsReadFault.of_tables {fault = f} one) (IsReadFault.of_program {ids = ids} tables members two) = absurd (sound_tables file ids f one tables)
one_read_fault one_ids one_classes agree one_class one_body classes_sound bodies_sound file asked _ _ (IsReadFault.of_classes {ids = ids} tables one) (IsReadFault.of_tables {fault = g} two) = absurd (sound_tables file ids g two tables)
one_read_fault one_ids one_classes agree one_class one_body classes_sound bodies_sound file asked _ _ (IsReadFault.of_classes {ids = ids} {fault = f} tables one) (IsReadFault.of_classes {ids = other} {fault = g} too two) =
    ap faults.Dex (one_first_cause file ids agree f g one (same_cause one_ids one_classes file ids other g tables too two))
one_read_fault one_ids one_classes agree one_class one_body classes_sound bodies_sound file asked _ _ (IsReadFault.of_classes {ids = ids} {fault = f} tables one) (IsReadFault.of_program {ids = other} {classes = classes} too members two) =
    absurd (spelled_has_none file ids classes f (same_classes one_ids one_classes file ids other classes tables too members) one)
one_read_fault one_ids one_classes agree one_class one_body classes_sound bodies_sound file asked _ _ (IsReadFault.of_program {ids = ids} tables members one) (IsReadFault.of_tables {fault = g} two) = absurd (sound_tables file ids g two tables)
one_read_fault one_ids one_classes agree one_class one_body classes_sound bodies_sound file asked _ _ (IsReadFault.of_program {ids = ids} {classes = classes} tables members one) (IsReadFault.of_classes {ids = other} {fault = g} too two) =
    absurd (spelled_has_none file ids classes g members (same_cause one_ids one_classes file ids other g tables too two))
one_read_fault one_ids one_classes agree one_class one_body classes_sound bodies_sound file asked _ _ (IsReadFault.of_program {ids = ids} {classes = classes} {fault = f} tables members one) (IsReadFault.of_program {ids = other} {classes = others} {fault = g} too more two) =
    ap faults.Program (one_program_fault one_class one_body classes_sound bodies_sound ids classes asked f g one (same_fault one_ids one_classes file ids other classes others asked g tables too members more two))

-- a program that is given has no fault
no_program_fault : SoundClassesHaveNoFault → SoundBodiesHaveNone → (ids : Ids) (classes : List RawClass) (asked : Option (List ℕ)) (program : Program) (fault : ProgramFault) → AreSound ids classes → HaveSoundBodies ids classes → IsProgram ids classes asked program → IsProgramFault ids classes asked fault → ⊥
no_program_fault classes_sound bodies_sound ids classes asked program fault sound bodies is (IsProgramFault.of_classes one) = classes_sound ids classes fault sound one
no_program_fault classes_sound bodies_sound ids classes asked program fault sound bodies is (IsProgramFault.of_bodies also one) = bodies_sound ids classes fault bodies one
no_program_fault classes_sound bodies_sound ids classes asked program _ sound bodies is (IsProgramFault.no_main also too none) = none is.main_class is.main_is

pub none_where_spelled : OneIds → OneClasses → SoundClassesHaveNoFault → SoundBodiesHaveNone → SpelledProgramsHaveNoFault
none_where_spelled one_ids one_classes classes_sound bodies_sound file asked program _ spelled (IsReadFault.of_tables {fault = f} one) = sound_tables file spelled.ids f one spelled.tables
none_where_spelled one_ids one_classes classes_sound bodies_sound file asked program _ spelled (IsReadFault.of_classes {ids = other} {fault = f} tables one) =
    spelled_has_none file spelled.ids spelled.classes f spelled.members (same_cause one_ids one_classes file spelled.ids other f spelled.tables tables one)
none_where_spelled one_ids one_classes classes_sound bodies_sound file asked program _ spelled (IsReadFault.of_program {ids = other} {classes = others} {fault = f} tables members one) =
    no_program_fault classes_sound bodies_sound spelled.ids spelled.classes asked program f spelled.sound spelled.bodies spelled.is (same_fault one_ids one_classes file spelled.ids other spelled.classes others asked f spelled.tables tables spelled.members members one)

pub are_hierarchies : SpelledTablesFit → ProgramsAreHierarchies → SpelledProgramsAreHierarchies
are_hierarchies fit hierarchies file asked program spelled = hierarchies spelled.ids spelled.classes asked program (fit file spelled.ids spelled.tables) spelled.sound spelled.is
