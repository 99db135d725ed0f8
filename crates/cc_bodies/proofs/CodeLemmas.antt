-- Code: what its instructions name, and where it ends.
use Rattle.std.proofs.Common.{◌≡◌, ◌≢◌, ℕ, List, Option, Some, None, Result, Ok, Err, refl, sym, ap, subst}
use Rattle.std.specs.Prelude.{OnOk}
use Rattle.cc_meaning.specs.declared.fault.ProgramFault.{ProgramFault}
use Rattle.cc_meaning.specs.declared.fault.ProgramFault.TheVariants as faults
use Rattle.cc_meaning.specs.declared.file.Ids.{Ids}
use Rattle.cc_meaning.specs.declared.program.Placed.{Placed}
use Rattle.cc_meaning_program.specs.declared.reference.Reference.{Reference}
use Rattle.cc_meaning_program.specs.References.{reference_of, reference_name, IsMissing, Floats}
use Rattle.cc_meaning.specs.declared.file.RawClass.{RawClass}
use Rattle.cc_meaning.specs.declared.file.RawCode.{RawCode}
use Rattle.cc_meaning.specs.declared.file.RawMethod.{RawMethod}
use Rattle.cc_meaning_program.specs.Named.{method_text}
use Rattle.cc_meaning_program.specs.Instructions.{AreInstructions, StandToEnd}
use Rattle.cc_meaning_program.specs.BodyFaults.{FirstHas, NoneHas, FieldFault, MethodFault, InsnFaulty, CodeFaulty, MethodFaulty, ClassFaulty}
use Rattle.cc_bodies.specs.declared.reading.Break.{Break}
use Rattle.cc_bodies.specs.Reading.{StandBefore}
use Rattle.cc_bodies.specs.Judged.{Judges, Reads, ReadsEach, ReferenceFaulty}
use Rattle.cc_bodies.specs.Bodies.{IsBody, AreClassBodies}

to_reference : (ids : Ids) (method : List ℕ) (placed : Placed) (named : Reference) (fault : ProgramFault) → reference_of placed.insn ≡ Some named →
    InsnFaulty ids method placed fault → ReferenceFaulty ids method placed.at named fault
to_reference ids method placed named _ there (InsnFaulty.missing {named = other} r m) =
    let same : other ≡ named = cc in
    ReferenceFaulty.missing (subst (IsMissing ids) same m) refl
to_reference ids method placed named _ there (InsnFaulty.floating {named = other} r n f) =
    let same : other ≡ named = cc in
    ReferenceFaulty.floating (subst (λ (it : Reference). ¬ IsMissing ids it) same n) (subst (Floats ids) same f) (ap (λ (it : Reference). faults.FloatMember (reference_name ids it)) same)

from_reference : (ids : Ids) (method : List ℕ) (placed : Placed) (named : Reference) (fault : ProgramFault) → reference_of placed.insn ≡ Some named →
    ReferenceFaulty ids method placed.at named fault → InsnFaulty ids method placed fault
from_reference ids method placed named fault there (ReferenceFaulty.missing m e) = subst (InsnFaulty ids method placed) (sym e) (InsnFaulty.missing there m)
from_reference ids method placed named fault there (ReferenceFaulty.floating n f e) = subst (InsnFaulty ids method placed) (sym e) (InsnFaulty.floating there n f)

pub insn_judged : (ids : Ids) (method : List ℕ) (placed : Placed) (named : Reference) (result : Result (Unit {0}) ProgramFault) → reference_of placed.insn ≡ Some named →
    Judges (ReferenceFaulty ids method placed.at named) result → Judges (InsnFaulty ids method placed) result
insn_judged ids method placed named (Ok nothing) there judged = λ fault f. judged fault (to_reference ids method placed named fault there f)
insn_judged ids method placed named (Err fault) there judged = λ real. from_reference ids method placed named fault there (judged real)

-- where no item has a fault, none is the first
pub none_first : {A : Type 0} (has : A → ProgramFault → Type 0) (items : List A) → NoneHas has items → (fault : ProgramFault) → ¬ FirstHas has items fault
none_first has items none fault first = none first.place first.item fault first.there first.faulty

-- ---- code

-- an instruction with a fault, whatever stands behind the instructions
pub insn_first : (ids : Ids) (method : List ℕ) (code : RawCode) (placed : List Placed) (broken : Option Break) (fault : ProgramFault) → StandToEnd → StandBefore code.units placed broken →
    FirstHas (InsnFaulty ids method) placed fault → CodeFaulty ids method code fault
insn_first ids method code placed None fault law stand first = CodeFaulty.of_instruction ((law code.units placed).0 stand) first
insn_first ids method code placed (Some broken) fault law stand first = CodeFaulty.of_instruction stand.stand first

pub units_break : (ids : Ids) (method name : List ℕ) (code : RawCode) (placed : List Placed) (broken : Option Break) (here : Break) → StandBefore code.units placed broken → broken ≡ Some here →
    NoneHas (InsnFaulty ids method) placed → name ≡ method → CodeFaulty ids method code (faults.Insn name here.at here.fault)
units_break ids method name code placed broken here stand is none same =
    CodeFaulty.of_units (subst (StandBefore code.units placed) is stand) none (ap (λ (text : List ℕ). faults.Insn text here.at here.fault) same)

-- units that don't break off are instructions
pub whole_units : (code : RawCode) (placed : List Placed) (broken : Option Break) → StandBefore code.units placed broken → ((here : Break) → broken ≢ Some here) → AreInstructions code.units placed
whole_units code placed None stand whole = stand
whole_units code placed (Some here) stand whole = absurd (whole here refl)

-- ---- methods and classes

pub body_read : (ids : Ids) (method : RawMethod) (code : RawCode) (placed : List Placed) → method.code ≡ Some code → AreInstructions code.units placed →
    ((fault : ProgramFault) → ¬ CodeFaulty ids (method_text ids method.row) code fault) → Reads (IsBody method.code) (MethodFaulty ids method) (Ok (Some placed))
body_read ids method code placed there are none = (
  subst (λ (stated : Option RawCode). IsBody stated (Some placed)) (sym there) are,
  λ fault f.
      let other = f.1 in
      let same : f.0 ≡ code = cc in
      none fault (subst (λ (it : RawCode). CodeFaulty ids (method_text ids method.row) it fault) same f.2),
)

pub class_read : (ids : Ids) (class : RawClass) (result : Result (List (Option (List Placed))) ProgramFault) → NoneHas (FieldFault ids) class.fields → NoneHas (MethodFault ids) class.methods →
    ReadsEach (λ (method : RawMethod) (body : Option (List Placed)). IsBody method.code body) (MethodFaulty ids) class.methods result → Reads (AreClassBodies class.methods) (ClassFaulty ids class) result
class_read ids class (Ok read) fields methods each = (each.0, none)
  where
    none : (fault : ProgramFault) → ¬ ClassFaulty ids class fault
    none fault (ClassFaulty.of_field first) = none_first (FieldFault ids) class.fields fields fault first
    none fault (ClassFaulty.of_method no_field first) = none_first (MethodFault ids) class.methods methods fault first
    none fault (ClassFaulty.of_code no_field no_method first) = none_first (MethodFaulty ids) class.methods each.1 fault first
class_read ids class (Err fault) fields methods each = λ real. ClassFaulty.of_code fields methods (each real)

pub sound_on_ok : {A B : Type 0} (is : A → B → Type 0) (has : A → ProgramFault → Type 0) (items : List A) (result : Result (List B) ProgramFault) → ReadsEach is has items result → OnOk result (NoneHas has items)
sound_on_ok is has items (Ok read) each = each.1
sound_on_ok is has items (Err fault) each = tt
