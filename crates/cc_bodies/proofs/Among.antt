-- An instruction of a method among all of a file.
use Rattle.std.proofs.Common.{◌≡◌, ◌⊎◌, inl, inr, ℕ, zero, suc, List, [], ◌∷◌, length, Option, Some, None, refl, sym, ap, ◌∙◌, subst, arith}
use Rattle.std.specs.Prelude.{slice_get, Contains}
use Rattle.std.specs.List.{flat_map}
use Rattle.std.proofs.lemmas.List.Elements.{Contains-append_left, Contains-append_right, Contains-append_cases}
use Rattle.std.proofs.lemmas.Option.{slice_get_within, get_or_from_slice_get, slice_get_read}
use Rattle.cc_meaning.specs.declared.file.RawClass.{RawClass}
use Rattle.cc_meaning.specs.declared.file.RawCode.{RawCode}
use Rattle.cc_meaning.specs.declared.file.RawMethod.{RawMethod}
use Rattle.cc_meaning.specs.declared.program.Placed.{Placed}
use Rattle.cc_meaning_program.specs.Instructions.{AreInstructions, OneReading}
use Rattle.cc_meaning_program.specs.Naming.{BodyIs, MethodsAre, ClassesAre}

-- ---- lists

pub contains_at : {A : Type 0} (xs : List A) (place : ℕ) (x : A) → slice_get xs place ≡ Some x → Contains xs x
contains_at xs place x there = (place, slice_get_within xs place x there, get_or_from_slice_get xs place x x there)

pub found_at : {A : Type 0} (xs : List A) (x : A) → Contains xs x → (place : ℕ) × (slice_get xs place ≡ Some x)
found_at xs x (place, within, is) = (place, slice_get_read xs (length xs) place x refl within (sym is))

pub contains_cases : {A : Type 0} (x : A) (xs : List A) (y : A) → Contains (x ∷ xs) y → (x ≡ y) ⊎ Contains xs y
contains_cases x xs y (zero, within, is) = inl is
contains_cases x xs y (suc place, within, is) = inr (place, omega arith, is)

pub contains_none : {A : Type 0} (x : A) → Contains [] x → ⊥
contains_none x (place, within, is) = absurd (omega arith)

pub contains_flat : {A B : Type 0} (of : A → List B) (xs : List A) (x : A) (y : B) → Contains xs x → Contains (of x) y → Contains (flat_map of xs) y
contains_flat of [] x y among one = absurd (contains_none x among)
contains_flat {A} {B} of (first ∷ rest) x y among one = elim (contains_cases first rest x among) [
  | inl same ↦ Contains-append_left (of first) (flat_map of rest) y (subst (λ (it : A). Contains (of it) y) (sym same) one)
  | inr later ↦ Contains-append_right (of first) (flat_map of rest) y (contains_flat of rest x y later one)
]

pub found_flat : {A B : Type 0} (of : A → List B) (xs : List A) (y : B) → Contains (flat_map of xs) y → (x : A) × Contains xs x × Contains (of x) y
found_flat of [] y among = absurd (contains_none y among)
found_flat {A} {B} of (first ∷ rest) y among = elim (Contains-append_cases (of first) (flat_map of rest) y among) [
  | inl here ↦ (first, (0, omega arith, refl), here)
  | inr later ↦
      let found = found_flat of rest y later in
      let behind = found.1 in
      (found.0, (suc behind.0, omega arith, behind.2), found.2)
]

-- ---- from a method to all

body_among : OneReading → (code : Option RawCode) (body : List Placed) → BodyIs code body → (of : RawCode) (insns : List Placed) → code ≡ Some of → AreInstructions of.units insns → body ≡ insns
body_among one None body is of insns coded are = absurd cc
body_among one (Some code) body is of insns coded are =
    let same : code ≡ of = cc in
    one of.units body insns (subst (λ (it : RawCode). AreInstructions it.units body) same is) are

in_methods : OneReading → (methods : List RawMethod) (all : List Placed) → MethodsAre methods all → (place : ℕ) (method : RawMethod) → slice_get methods place ≡ Some method →
    (code : RawCode) (insns : List Placed) → method.code ≡ Some code → AreInstructions code.units insns → (placed : Placed) → Contains insns placed → Contains all placed
in_methods one _ _ MethodsAre.none place method there code insns coded are placed among = absurd cc
in_methods one _ _ (MethodsAre.next {method = first} body rest is more) zero method there code insns coded are placed among =
    let same : first ≡ method = cc in
    let whole : body ≡ insns = body_among one first.code body is code insns (ap (λ (it : RawMethod). it.code) same ∙ coded) are in
    Contains-append_left body rest placed (subst (λ (it : List Placed). Contains it placed) (sym whole) among)
in_methods one _ _ (MethodsAre.next {methods = methods} body rest is more) (suc place) method there code insns coded are placed among =
    Contains-append_right body rest placed (in_methods one methods rest more place method there code insns coded are placed among)

pub in_classes : OneReading → (classes : List RawClass) (all : List Placed) → ClassesAre classes all → (number : ℕ) (class : RawClass) → slice_get classes number ≡ Some class →
    (place : ℕ) (method : RawMethod) → slice_get class.methods place ≡ Some method → (code : RawCode) (insns : List Placed) → method.code ≡ Some code → AreInstructions code.units insns →
    (placed : Placed) → Contains insns placed → Contains all placed
in_classes one _ _ ClassesAre.none number class class_there place method there code insns coded are placed among = absurd cc
in_classes one _ _ (ClassesAre.next {class = first} bodies rest is more) zero class class_there place method there code insns coded are placed among =
    let same : first ≡ class = cc in
    let methods_are : MethodsAre class.methods bodies = subst (λ (it : RawClass). MethodsAre it.methods bodies) same is in
    Contains-append_left bodies rest placed (in_methods one class.methods bodies methods_are place method there code insns coded are placed among)
in_classes one _ _ (ClassesAre.next {classes = classes} bodies rest is more) (suc number) class class_there place method there code insns coded are placed among =
    Contains-append_right bodies rest placed (in_classes one classes rest more number class class_there place method there code insns coded are placed among)

-- ---- from all to a method

-- an instruction of the code of one of these methods
pub record StandsIn (methods : List RawMethod) (placed : Placed) : Type 0 where
  pub place : ℕ
  pub method : RawMethod
  pub method_there : slice_get methods place ≡ Some method
  pub code : RawCode
  pub coded : method.code ≡ Some code
  pub insns : List Placed
  pub are : AreInstructions code.units insns
  pub among : Contains insns placed

stands_here : (method : RawMethod) (methods : List RawMethod) (code : Option RawCode) (body : List Placed) → method.code ≡ code → BodyIs code body → (placed : Placed) → Contains body placed → StandsIn (method ∷ methods) placed
stands_here method methods None body coded is placed among = absurd (contains_none placed (subst (λ (it : List Placed). Contains it placed) is among))
stands_here method methods (Some code) body coded is placed among = record { place = 0; method = method; method_there = refl; code = code; coded = coded; insns = body; are = is; among = among }

stands_later : (first : RawMethod) (methods : List RawMethod) (placed : Placed) → StandsIn methods placed → StandsIn (first ∷ methods) placed
stands_later first methods placed s =
    record { place = suc s.place; method = s.method; method_there = s.method_there; code = s.code; coded = s.coded; insns = s.insns; are = s.are; among = s.among }

of_methods : (methods : List RawMethod) (all : List Placed) → MethodsAre methods all → (placed : Placed) → Contains all placed → StandsIn methods placed
of_methods _ _ MethodsAre.none placed among = absurd (contains_none placed among)
of_methods _ _ (MethodsAre.next {method = first} {methods = methods} body rest is more) placed among = elim (Contains-append_cases body rest placed among) [
  | inl here ↦ stands_here first methods first.code body refl is placed here
  | inr later ↦ stands_later first methods placed (of_methods methods rest more placed later)
]

-- an instruction of a method of one of these classes
pub record StandsWithin (classes : List RawClass) (placed : Placed) : Type 0 where
  pub number : ℕ
  pub class : RawClass
  pub class_there : slice_get classes number ≡ Some class
  pub stands : StandsIn class.methods placed

pub of_classes : (classes : List RawClass) (all : List Placed) → ClassesAre classes all → (placed : Placed) → Contains all placed → StandsWithin classes placed
of_classes _ _ ClassesAre.none placed among = absurd (contains_none placed among)
of_classes _ _ (ClassesAre.next {class = first} {classes = classes} bodies rest is more) placed among = elim (Contains-append_cases bodies rest placed among) [
  | inl here ↦ record { number = 0; class = first; class_there = refl; stands = of_methods first.methods bodies is placed here }
  | inr later ↦
      let s = of_classes classes rest more placed later in
      record { number = suc s.number; class = s.class; class_there = s.class_there; stands = s.stands }
]
