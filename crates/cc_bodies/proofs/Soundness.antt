-- What sound bodies say of each code.
use Rattle.std.proofs.Common.{◌≡◌, ℕ, zero, suc, ◌<◌, List, Some, arith}
use Rattle.std.specs.Prelude.{slice_get}
use Rattle.cc_meaning.specs.declared.fault.ProgramFault.{ProgramFault}
use Rattle.cc_meaning.specs.declared.file.Ids.{Ids}
use Rattle.cc_meaning.specs.declared.file.RawClass.{RawClass}
use Rattle.cc_meaning.specs.declared.file.RawCode.{RawCode}
use Rattle.cc_meaning.specs.declared.file.RawMethod.{RawMethod}
use Rattle.cc_meaning.specs.declared.file.RawTry.{RawTry}
use Rattle.cc_meaning.specs.declared.program.Placed.{Placed}
use Rattle.cc_meaning_program.specs.declared.reference.Reference.{Reference}
use Rattle.cc_meaning_program.specs.Named.{method_text}
use Rattle.cc_meaning_program.specs.Instructions.{AreInstructions, StandToEnd}
use Rattle.cc_meaning_program.specs.References.{reference_of, IsMissing, Floats}
use Rattle.cc_meaning_program.specs.BodyFaults.{FirstHas, NoneHas, FieldFault, MethodFault, InsnFaulty, CatchFaulty, TryFaulty, CodeFaulty, MethodFaulty, ClassFaulty, HaveSoundBodies}

-- ---- none has where none is the first

none_below : {A : Type 0} (has : A → ProgramFault → Type 0) (items : List A) → ((fault : ProgramFault) → ¬ FirstHas has items fault) →
    (limit earlier : ℕ) (item : A) (fault : ProgramFault) → earlier < limit → slice_get items earlier ≡ Some item → ¬ has item fault
none_below has items none zero earlier item fault below there = absurd (omega arith)
none_below has items none (suc limit) earlier item fault below there =
    λ faulty. none fault (record {
      place = earlier;
      item = item;
      there = there;
      faulty = faulty;
      before = λ first other another ahead is. none_below has items none limit first other another (omega arith) is;
    })

none_has : {A : Type 0} (has : A → ProgramFault → Type 0) (items : List A) → ((fault : ProgramFault) → ¬ FirstHas has items fault) → NoneHas has items
none_has has items none = λ place item fault there. none_below has items none (suc place) place item fault (omega arith) there

-- ---- codes

pub record CodeIsSound (ids : Ids) (method : List ℕ) (code : RawCode) (insns : List Placed) : Type 0 where
  pub of_insns : NoneHas (InsnFaulty ids method) insns
  pub of_tries : (number : ℕ) (try : RawTry) → slice_get code.tries number ≡ Some try → NoneHas (CatchFaulty ids) try.catches

pub code_is_sound : StandToEnd → (ids : Ids) (classes : List RawClass) → HaveSoundBodies ids classes → (number : ℕ) (class : RawClass) → slice_get classes number ≡ Some class →
    (place : ℕ) (method : RawMethod) → slice_get class.methods place ≡ Some method → (code : RawCode) (insns : List Placed) → method.code ≡ Some code → AreInstructions code.units insns →
    CodeIsSound ids (method_text ids method.row) code insns
code_is_sound to_end ids classes sound number class class_there place method method_there code insns coded are =
    let name : List ℕ = method_text ids method.row in
    let no_class : (fault : ProgramFault) → ¬ ClassFaulty ids class fault = λ fault. sound number class fault class_there in
    let no_field : NoneHas (FieldFault ids) class.fields = none_has (FieldFault ids) class.fields (λ fault first. no_class fault (ClassFaulty.of_field first)) in
    let no_method : NoneHas (MethodFault ids) class.methods = none_has (MethodFault ids) class.methods (λ fault first. no_class fault (ClassFaulty.of_method no_field first)) in
    let no_code : NoneHas (MethodFaulty ids) class.methods = none_has (MethodFaulty ids) class.methods (λ fault first. no_class fault (ClassFaulty.of_code no_field no_method first)) in
    let none : (fault : ProgramFault) → ¬ CodeFaulty ids name code fault = λ fault faulty. no_code place method fault method_there (code, coded, faulty) in
    let no_insn : NoneHas (InsnFaulty ids name) insns = none_has (InsnFaulty ids name) insns (λ fault first. none fault (CodeFaulty.of_instruction ((to_end code.units insns).0 are) first)) in
    let no_try : NoneHas (TryFaulty ids) code.tries = none_has (TryFaulty ids) code.tries (λ fault first. none fault (CodeFaulty.of_handler are no_insn first)) in
    record { of_insns = no_insn; of_tries = λ number try there. none_has (CatchFaulty ids) try.catches (λ fault first. no_try number try fault there first) }

-- ---- instructions

-- a row that is there and isn't of floating point
pub record NamedIsSound (ids : Ids) (named : Reference) : Type 0 where
  pub present : ¬ IsMissing ids named
  pub plain : ¬ Floats ids named

pub named_is_sound : (ids : Ids) (method : List ℕ) (insns : List Placed) → NoneHas (InsnFaulty ids method) insns → (place : ℕ) (placed : Placed) → slice_get insns place ≡ Some placed →
    (named : Reference) → reference_of placed.insn ≡ Some named → NamedIsSound ids named
named_is_sound ids method insns none place placed there named refers =
    let present : ¬ IsMissing ids named = λ missing. none place placed _ there (InsnFaulty.missing refers missing) in
    record { present = present; plain = λ floats. none place placed _ there (InsnFaulty.floating refers present floats) }
