-- What may be wrong with the members of a file's classes and with their code. Class by class in the file's order come first the members, then the methods'
-- instructions in order, and behind those of a method the types that its handlers take. Of these places the first that has a fault is named.
use Rattle.std.specs.Prelude.{◌≡◌, ℕ, ◌<◌, List, slice_get, Some}
use Rattle.cc_meaning.specs.declared.fault.InsnFault.{InsnFault}
use Rattle.cc_meaning.specs.declared.fault.ProgramFault.{ProgramFault}
use Rattle.cc_meaning.specs.declared.fault.ProgramFault.TheVariants as faults
use Rattle.cc_meaning.specs.declared.file.Ids.{Ids}
use Rattle.cc_meaning.specs.declared.file.RawCatch.{RawCatch}
use Rattle.cc_meaning.specs.declared.file.RawClass.{RawClass}
use Rattle.cc_meaning.specs.declared.file.RawCode.{RawCode}
use Rattle.cc_meaning.specs.declared.file.RawField.{RawField}
use Rattle.cc_meaning.specs.declared.file.RawMethod.{RawMethod}
use Rattle.cc_meaning.specs.declared.file.RawTry.{RawTry}
use Rattle.cc_meaning.specs.declared.program.Placed.{Placed}
use Rattle.cc_meaning_program.specs.declared.reference.Reference.{Reference}
use Rattle.cc_meaning_program.specs.Named.{type_name, field_text, method_text}
use Rattle.cc_meaning_program.specs.Instructions.{AreInstructions, StandUntil, BreaksOff}
use Rattle.cc_meaning_program.specs.References.{reference_of, reference_name, IsMissing, IsFloating, Floats, FieldFloats, MethodFloats}

-- the first of these items for which there is a fault, and no earlier one has any
pub record FirstHas {A : Type 0} (has : A → ProgramFault → Type 0) (items : List A) (fault : ProgramFault) : Type 0 where
  pub place : ℕ
  pub item : A
  pub there : slice_get items place ≡ Some item
  pub faulty : has item fault
  pub before : (earlier : ℕ) (other : A) (another : ProgramFault) → earlier < place → slice_get items earlier ≡ Some other → ¬ has other another

-- no item has a fault
abbrev pub NoneHas : {A : Type 0} → (A → ProgramFault → Type 0) → List A → Type 0
NoneHas {A} has items = (place : ℕ) (item : A) (fault : ProgramFault) → slice_get items place ≡ Some item → ¬ has item fault

-- ---- members

pub record FieldFault (ids : Ids) (field : RawField) (fault : ProgramFault) : Type 0 where
  pub floats : FieldFloats ids field.row
  pub named : fault ≡ faults.FloatMember (field_text ids field.row)

pub record MethodFault (ids : Ids) (method : RawMethod) (fault : ProgramFault) : Type 0 where
  pub floats : MethodFloats ids method.row
  pub named : fault ≡ faults.FloatMember (method_text ids method.row)

-- ---- instructions

-- An instruction of a method, of this name: a row that isn't there, or else a member or type of floating point.
pub data InsnFaulty (ids : Ids) (method : List ℕ) (placed : Placed) : ProgramFault → Type 0 where
  missing : {named : Reference} → reference_of placed.insn ≡ Some named → IsMissing ids named → InsnFaulty ids method placed (faults.BadIndex method placed.at)
  floating : {named : Reference} → reference_of placed.insn ≡ Some named → ¬ IsMissing ids named → Floats ids named → InsnFaulty ids method placed (faults.FloatMember (reference_name ids named))

-- a handler that takes a type of floating point
pub record CatchFaulty (ids : Ids) (catch : RawCatch) (fault : ProgramFault) : Type 0 where
  pub row : ℕ
  pub typed : catch.row ≡ Some row
  pub floats : IsFloating (type_name ids row)
  pub named : fault ≡ faults.FloatMember (type_name ids row)

abbrev pub TryFaulty : Ids → RawTry → ProgramFault → Type 0
TryFaulty ids try fault = FirstHas (CatchFaulty ids) try.catches fault

-- The code of a method, of this name. An instruction with a fault comes before a place where no instruction stands, if it stands before it, and handlers come last.
pub data CodeFaulty (ids : Ids) (method : List ℕ) (code : RawCode) (fault : ProgramFault) : Type 0 where
  of_instruction : {at : ℕ} {before : List Placed} → StandUntil code.units at before → FirstHas (InsnFaulty ids method) before fault → CodeFaulty ids method code fault
  of_units : {at : ℕ} {before : List Placed} {cause : InsnFault} → BreaksOff code.units before at cause → NoneHas (InsnFaulty ids method) before → fault ≡ faults.Insn method at cause → CodeFaulty ids method code fault
  of_handler : {all : List Placed} → AreInstructions code.units all → NoneHas (InsnFaulty ids method) all → FirstHas (TryFaulty ids) code.tries fault → CodeFaulty ids method code fault

-- a method without code has no fault
abbrev pub MethodFaulty : Ids → RawMethod → ProgramFault → Type 0
MethodFaulty ids method fault = (code : RawCode) × (method.code ≡ Some code) × CodeFaulty ids (method_text ids method.row) code fault

-- ---- classes

-- a class's fields, then its methods, then their code
pub data ClassFaulty (ids : Ids) (class : RawClass) (fault : ProgramFault) : Type 0 where
  of_field : FirstHas (FieldFault ids) class.fields fault → ClassFaulty ids class fault
  of_method : NoneHas (FieldFault ids) class.fields → FirstHas (MethodFault ids) class.methods fault → ClassFaulty ids class fault
  of_code : NoneHas (FieldFault ids) class.fields → NoneHas (MethodFault ids) class.methods → FirstHas (MethodFaulty ids) class.methods fault → ClassFaulty ids class fault

-- the first fault of the members and the code of a file's classes
abbrev pub IsBodyFault : Ids → List RawClass → ProgramFault → Type 0
IsBodyFault ids classes fault = FirstHas (ClassFaulty ids) classes fault

-- there is none
abbrev pub HaveSoundBodies : Ids → List RawClass → Type 0
HaveSoundBodies ids classes = NoneHas (ClassFaulty ids) classes

-- ---- laws

-- code has no fault where its units are instructions, and neither these nor its handlers have one
abbrev pub SoundCode : Type 0
SoundCode = (ids : Ids) (method : List ℕ) (code : RawCode) (placed : List Placed) (fault : ProgramFault) → AreInstructions code.units placed → NoneHas (InsnFaulty ids method) placed → NoneHas (TryFaulty ids) code.tries → ¬ CodeFaulty ids method code fault

-- of the faults of bodies one is the first
abbrev pub OneBodyFault : Type 0
OneBodyFault = (ids : Ids) (classes : List RawClass) (fault other : ProgramFault) → IsBodyFault ids classes fault → IsBodyFault ids classes other → fault ≡ other

-- sound bodies have none
abbrev pub SoundBodiesHaveNone : Type 0
SoundBodiesHaveNone = (ids : Ids) (classes : List RawClass) (fault : ProgramFault) → HaveSoundBodies ids classes → ¬ IsBodyFault ids classes fault

-- that memory is wanting is no fault of theirs
abbrev pub NoBodyLacksMemory : Type 0
NoBodyLacksMemory = (ids : Ids) (classes : List RawClass) → ¬ IsBodyFault ids classes faults.Memory
