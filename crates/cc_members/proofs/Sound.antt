-- What sound bodies say of members and of instructions.
use Rattle.std.proofs.Common.{◌≡◌, inl, inr, ℕ, zero, suc, ◌<◌, List, ◌++◌, length, Option, Some, None, refl, ap, ◌∙◌, arith}
use Rattle.std.specs.Prelude.{slice_get, Contains}
use Rattle.std.proofs.lemmas.List.Elements.{Contains-append_cases}
use Rattle.std.proofs.lemmas.Option.{slice_get-get_or}
use Rattle.cc_meaning.specs.declared.fault.ProgramFault.{ProgramFault}
use Rattle.cc_meaning.specs.declared.fault.ProgramFault.TheVariants as faults
use Rattle.cc_meaning.specs.declared.file.Ids.{Ids}
use Rattle.cc_meaning.specs.declared.file.RawClass.{RawClass}
use Rattle.cc_meaning.specs.declared.file.RawCode.{RawCode}
use Rattle.cc_meaning.specs.declared.file.RawField.{RawField}
use Rattle.cc_meaning.specs.declared.file.RawMethod.{RawMethod}
use Rattle.cc_meaning.specs.declared.program.Placed.{Placed}
use Rattle.cc_meaning_program.specs.declared.reference.Reference.{Reference}
use Rattle.cc_meaning_program.specs.BodyFaults.{FirstHas, NoneHas, FieldFault, MethodFault, InsnFaulty, CodeFaulty, MethodFaulty, ClassFaulty, HaveSoundBodies}
use Rattle.cc_meaning_program.specs.Instructions.{AreInstructions, StandToEnd}
use Rattle.cc_meaning_program.specs.Named.{field_text, method_text}
use Rattle.cc_meaning_program.specs.References.{reference_of, reference_name, Floats, FieldFloats, MethodFloats}
use Rattle.cc_meaning_program.specs.Naming.{BodyIs, MethodsAre, ClassesAre}

-- where no fault is that of the first faulty item, no item has any
none_first : {A : Type 0} (has : A → ProgramFault → Type 0) (items : List A) → ((fault : ProgramFault) → ¬ FirstHas has items fault) → NoneHas has items
none_first {A} has items never place item fault there faulty = below (suc place) place item fault (omega arith) there faulty
  where
    below : (count : ℕ) (place : ℕ) (item : A) (fault : ProgramFault) → place < count → slice_get items place ≡ Some item → ¬ has item fault
    below zero place item fault h there faulty = omega arith
    below (suc n) place item fault h there faulty =
        never fault (record { place = place; item = item; there = there; faulty = faulty; before = λ earlier other another before is worse. below n earlier other another (omega arith) is worse })

-- ---- members

abbrev ClassIsSound : Ids → RawClass → Type 0
ClassIsSound ids class = (fault : ProgramFault) → ¬ ClassFaulty ids class fault

fields_are_sound : (ids : Ids) (class : RawClass) → ClassIsSound ids class → NoneHas (FieldFault ids) class.fields
fields_are_sound ids class sound = none_first (FieldFault ids) class.fields (λ fault first. sound fault (ClassFaulty.of_field first))

methods_are_sound : (ids : Ids) (class : RawClass) → ClassIsSound ids class → NoneHas (MethodFault ids) class.methods
methods_are_sound ids class sound = none_first (MethodFault ids) class.methods (λ fault first. sound fault (ClassFaulty.of_method (fields_are_sound ids class sound) first))

codes_are_sound : (ids : Ids) (class : RawClass) → ClassIsSound ids class → NoneHas (MethodFaulty ids) class.methods
codes_are_sound ids class sound =
    none_first (MethodFaulty ids) class.methods (λ fault first. sound fault (ClassFaulty.of_code (fields_are_sound ids class sound) (methods_are_sound ids class sound) first))

-- a field that the file defines isn't of floating point
pub field_is_plain : (ids : Ids) (classes : List RawClass) (number : ℕ) (class : RawClass) (place : ℕ) (raw : RawField) → HaveSoundBodies ids classes → slice_get classes number ≡ Some class →
    slice_get class.fields place ≡ Some raw → ¬ FieldFloats ids raw.row
field_is_plain ids classes number class place raw sound there stands floats =
    fields_are_sound ids class (λ fault. sound number class fault there) place raw (faults.FloatMember (field_text ids raw.row)) stands (record { floats = floats; named = refl })

-- nor is a method
pub method_is_plain : (ids : Ids) (classes : List RawClass) (number : ℕ) (class : RawClass) (place : ℕ) (raw : RawMethod) → HaveSoundBodies ids classes → slice_get classes number ≡ Some class →
    slice_get class.methods place ≡ Some raw → ¬ MethodFloats ids raw.row
method_is_plain ids classes number class place raw sound there stands floats =
    methods_are_sound ids class (λ fault. sound number class fault there) place raw (faults.FloatMember (method_text ids raw.row)) stands (record { floats = floats; named = refl })

-- ---- instructions

-- an instruction of code of a sound class
pub record IsInsnOf (ids : Ids) (placed : Placed) : Type 0 where
  pub method : List ℕ
  pub sound : (fault : ProgramFault) → ¬ InsnFaulty ids method placed fault

code_sound : StandToEnd → (ids : Ids) (method : List ℕ) (code : RawCode) (all : List Placed) → ((fault : ProgramFault) → ¬ CodeFaulty ids method code fault) → AreInstructions code.units all → NoneHas (InsnFaulty ids method) all
code_sound ends ids method code all sound are =
    none_first (InsnFaulty ids method) all (λ fault first. sound fault (CodeFaulty.of_instruction ((ends code.units all).0 are) first))

-- an item that is among some has a place there
pub placed_among : {A : Type 0} (xs : List A) (x : A) → Contains xs x → (place : ℕ) × (slice_get xs place ≡ Some x)
placed_among xs x (place, within, is) = (place, slice_get-get_or xs place x within ∙ ap Some is)

in_body : StandToEnd → (ids : Ids) (method : RawMethod) (body : List Placed) (placed : Placed) (code : Option RawCode) → method.code ≡ code → ((fault : ProgramFault) → ¬ MethodFaulty ids method fault) → BodyIs code body → Contains body placed →
    IsInsnOf ids placed
in_body ends ids method body placed None coded sound is (place, within, same) = absurd (omega (arith, ap length is))
in_body ends ids method body placed (Some code) coded sound is among =
    let (place, there) = placed_among body placed among in
    record {
      method = method_text ids method.row;
      sound = λ fault. code_sound ends ids (method_text ids method.row) code body (λ fault faulty. sound fault (code, coded, faulty)) is place placed fault there;
    }

in_either : (front rest : List Placed) (placed : Placed) (B : Type 0) → Contains (front ++ rest) placed → (Contains front placed → B) → (Contains rest placed → B) → B
in_either front rest placed B among first second = elim (Contains-append_cases front rest placed among) [ inl here ↦ first here | inr there ↦ second there ]

in_methods : StandToEnd → (ids : Ids) (methods : List RawMethod) (bodies : List Placed) (placed : Placed) → NoneHas (MethodFaulty ids) methods → MethodsAre methods bodies → Contains bodies placed → IsInsnOf ids placed
in_methods ends ids _ _ placed sound MethodsAre.none (place, within, same) = absurd (omega arith)
in_methods ends ids _ _ placed sound (MethodsAre.next {method = method} {methods = methods} body rest is are) among =
    in_either body rest placed (IsInsnOf ids placed) among (in_body ends ids method body placed method.code refl (λ fault. sound 0 method fault refl) is)
    (in_methods ends ids methods rest placed (λ place item fault at. sound (suc place) item fault at) are)

-- each instruction of a file whose bodies are sound is one
pub in_classes : StandToEnd → (ids : Ids) (classes : List RawClass) (all : List Placed) (placed : Placed) → HaveSoundBodies ids classes → ClassesAre classes all → Contains all placed → IsInsnOf ids placed
in_classes ends ids _ _ placed sound ClassesAre.none (place, within, same) = absurd (omega arith)
in_classes ends ids _ _ placed sound (ClassesAre.next {class = class} {classes = classes} bodies rest of_class are) among =
    in_either bodies rest placed (IsInsnOf ids placed) among (in_methods ends ids class.methods bodies placed (codes_are_sound ids class (λ fault. sound 0 class fault refl)) of_class)
    (in_classes ends ids classes rest placed (λ place item fault at. sound (suc place) item fault at) are)

-- what such an instruction names isn't of floating point
pub named_is_plain : (ids : Ids) (placed : Placed) (named : Reference) → IsInsnOf ids placed → reference_of placed.insn ≡ Some named → ¬ Floats ids named
named_is_plain ids placed named is refers floats =
    is.sound (faults.FloatMember (reference_name ids named))
    (InsnFaulty.floating refers (λ missing. is.sound (faults.BadIndex is.method placed.at) (InsnFaulty.missing refers missing)) floats)
