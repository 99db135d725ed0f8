-- Code whose rows have links.
use Rattle.std.specs.Prelude.{◌≡◌, ℕ, ◌<◌, List, length, slice_get, Some, IfSome}
use Rattle.cc_meaning.specs.declared.file.Ids.{Ids}
use Rattle.cc_meaning.specs.declared.file.RawCatch.{RawCatch}
use Rattle.cc_meaning.specs.declared.file.RawClass.{RawClass}
use Rattle.cc_meaning.specs.declared.file.RawCode.{RawCode}
use Rattle.cc_meaning.specs.declared.file.RawMethod.{RawMethod}
use Rattle.cc_meaning.specs.declared.file.RawTry.{RawTry}
use Rattle.cc_meaning.specs.declared.instruction.Insn.{Insn}
use Rattle.cc_meaning.specs.declared.program.DexType.{DexType}
use Rattle.cc_meaning.specs.declared.program.Placed.{Placed}
use Rattle.cc_meaning_program.specs.declared.reference.Reference.{Reference}
use Rattle.cc_meaning_program.specs.declared.reference.Reference.TheVariants as reference
use Rattle.cc_meaning_program.specs.References.{reference_of}
use Rattle.cc_meaning_program.specs.BodyFaults.{HaveSoundBodies}
use Rattle.cc_meaning_program.specs.ClassNames.{AreClassNames}
use Rattle.cc_meaning_program.specs.Instructions.{AreInstructions}
use Rattle.cc_meaning_program.specs.Links.{AreLinks}
use Rattle.cc_meaning_program.specs.Rows.{FitTables, FitClasses}
use Rattle.cc_meaning_program.specs.Uses.{AreUses}
use Rattle.cc_meaning_program.specs.declared.links.Links.{Links}
use Rattle.cc_meaning_program.specs.declared.links.MethodLink.{MethodLink}
use Rattle.cc_meaning_program.specs.declared.uses.MethodUse.{MethodUse}

-- a row that is named has a link
abbrev pub HasLink : Links → Reference → Type 0
HasLink links (reference.Text row) = row < length links.texts
HasLink links (reference.Type row) = (type : DexType) × (slice_get links.types row ≡ Some (Some type))
HasLink links (reference.Field row) = (number : ℕ) × (slice_get links.fields row ≡ Some (Some number))
HasLink links (reference.Method row) = (link : MethodLink) × (slice_get links.methods row ≡ Some (Some link))

-- so has the row that an instruction names, where it names one
abbrev pub InsnHasLink : Links → Insn → Type 0
InsnHasLink links insn = IfSome (reference_of insn) (HasLink links)

abbrev pub InsnsHaveLinks : Links → List Placed → Type 0
InsnsHaveLinks links insns = (number : ℕ) (placed : Placed) → slice_get insns number ≡ Some placed → InsnHasLink links placed.insn

-- and the row of the type that a handler takes
abbrev pub CatchHasLink : Links → RawCatch → Type 0
CatchHasLink links catch = IfSome catch.row (λ (row : ℕ). HasLink links (reference.Type row))

abbrev pub CatchesHaveLinks : Links → List RawCatch → Type 0
CatchesHaveLinks links catches = (number : ℕ) (catch : RawCatch) → slice_get catches number ≡ Some catch → CatchHasLink links catch

abbrev pub TriesHaveLinks : Links → List RawTry → Type 0
TriesHaveLinks links tries = (number : ℕ) (try : RawTry) → slice_get tries number ≡ Some try → CatchesHaveLinks links try.catches

-- each row that code with these instructions names has a link
pub record IsLinkable (links : Links) (code : RawCode) (insns : List Placed) : Type 0 where
  pub of_insns : InsnsHaveLinks links insns
  pub of_tries : TriesHaveLinks links code.tries

-- ---- law

-- the code of a method that the file's classes define
pub record IsCodeOf (classes : List RawClass) (code : RawCode) : Type 0 where
  pub number : ℕ
  pub class : RawClass
  pub class_there : slice_get classes number ≡ Some class
  pub place : ℕ
  pub method : RawMethod
  pub method_there : slice_get class.methods place ≡ Some method
  pub coded : method.code ≡ Some code

-- in a file whose bodies are sound, so is each code
abbrev pub SoundCodeIsLinkable : Type 0
SoundCodeIsLinkable = (ids : Ids) (classes : List RawClass) (names texts methods fields : List (List ℕ)) (method_uses : List MethodUse) (field_uses : List ℕ) (links : Links) →
    FitTables ids → FitClasses ids classes → AreClassNames ids names → HaveSoundBodies ids classes → AreUses classes method_uses field_uses →
    AreLinks ids classes names texts methods fields method_uses field_uses links →
    (code : RawCode) (insns : List Placed) → IsCodeOf classes code → AreInstructions code.units insns → IsLinkable links code insns
