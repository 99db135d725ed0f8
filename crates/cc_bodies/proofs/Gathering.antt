-- What instructions name of members, one behind the other.
use Rattle.std.proofs.Common.{◌≡◌, ℕ, ◌+◌, ◌<◌, List, [], ◌∷◌, ◌++◌, length, take, get_or, Option, Some, None, refl, sym, ap, ◌∙◌, subst, add-one, append_assoc}
use Rattle.std.specs.List.{flat_map}
use Rattle.std.proofs.Math.Seq.{take-suc}
use Rattle.std.proofs.lemmas.Grind.{flat_map-append}
use Rattle.std.proofs.lemmas.List.{append-nil}
use Rattle.cc_meaning.specs.declared.file.RawClass.{RawClass}
use Rattle.cc_meaning.specs.declared.file.RawMethod.{RawMethod}
use Rattle.cc_meaning.specs.declared.file.RawCode.{RawCode}
use Rattle.cc_meaning.specs.declared.program.Placed.{Placed}
use Rattle.cc_bodies.specs.Bodies.{IsBody, AreClassBodies, AreBodies}
use Rattle.cc_meaning_program.specs.Naming.{BodyIs, MethodsAre, ClassesAre}
use Rattle.cc_meaning_program.specs.Uses.{AreUses, method_use_of, field_use_of, method_uses_of, field_uses_of}
use Rattle.cc_bodies.specs.declared.uses.MemberUses.{MemberUses}
use Rattle.cc_bodies.specs.Gathering.{insns_of_body, insns_of_methods, insns_of_classes, AddsUses}

-- ---- adding

pub adds_none : (uses : MemberUses) → AddsUses [] uses uses
unfolding method_uses_of field_uses_of
adds_none uses = record { methods = sym (append-nil uses.methods); fields = sym (append-nil uses.fields) }

pub adds_both : (these those : List Placed) (before between after : MemberUses) → AddsUses these before between → AddsUses those between after → AddsUses (these ++ those) before after
unfolding method_uses_of field_uses_of
adds_both these those before between after first second =
    record {
      methods = second.methods ∙ ap (λ xs. xs ++ method_uses_of those) first.methods ∙ append_assoc before.methods (method_uses_of these) (method_uses_of those) ∙ ap (λ xs. before.methods ++ xs) (sym (flat_map-append (λ (placed : Placed). method_use_of placed.insn) these those));
      fields = second.fields ∙ ap (λ xs. xs ++ field_uses_of those) first.fields ∙ append_assoc before.fields (field_uses_of these) (field_uses_of those) ∙ ap (λ xs. before.fields ++ xs) (sym (flat_map-append (λ (placed : Placed). field_use_of placed.insn) these those));
    }

adds_one : (placed : Placed) (before after : MemberUses) → after.methods ≡ before.methods ++ method_use_of placed.insn → after.fields ≡ before.fields ++ field_use_of placed.insn → AddsUses (placed ∷ []) before after
unfolding method_uses_of field_uses_of
adds_one placed before after methods fields =
    record {
      methods = methods ∙ ap (λ xs. before.methods ++ xs) (sym (append-nil (method_use_of placed.insn)));
      fields = fields ∙ ap (λ xs. before.fields ++ xs) (sym (append-nil (field_use_of placed.insn)));
    }

-- one more instruction
pub adds_next : (items : List Placed) (place : ℕ) (placed : Placed) (before between after : MemberUses) → place < length items → placed ≡ get_or items place placed →
    AddsUses (take place items) before between → after.methods ≡ between.methods ++ method_use_of placed.insn → after.fields ≡ between.fields ++ field_use_of placed.insn → AddsUses (take (place + 1) items) before after
adds_next items place placed before between after h is first methods fields =
    let front : take (place + 1) items ≡ take place items ++ placed ∷ [] = rw (add-one, take-suc items place placed h) (ap (λ (it : Placed). take place items ++ it ∷ []) (sym is)) in
    subst (λ (insns : List Placed). AddsUses insns before after) (sym front) (adds_both (take place items) (placed ∷ []) before between after first (adds_one placed between after methods fields))

-- those of one more item of some that have instructions
pub adds_more : {A : Type 0} (of : A → List Placed) (items : List A) (place : ℕ) (item : A) (before between after : MemberUses) → place < length items → item ≡ get_or items place item →
    AddsUses (flat_map of (take place items)) before between → AddsUses (of item) between after → AddsUses (flat_map of (take (place + 1) items)) before after
adds_more {A} of items place item before between after h is first second =
    let front : take (place + 1) items ≡ take place items ++ item ∷ [] = rw (add-one, take-suc items place item h) (ap (λ (it : A). take place items ++ it ∷ []) (sym is)) in
    let split : flat_map of (take (place + 1) items) ≡ flat_map of (take place items) ++ of item = ap (flat_map of) front ∙ flat_map-append of (take place items) (item ∷ []) ∙ ap (λ xs. flat_map of (take place items) ++ xs) (append-nil (of item)) in
    subst (λ (insns : List Placed). AddsUses insns before after) (sym split) (adds_both (flat_map of (take place items)) (of item) before between after first second)

-- ---- bodies

methods_are : (methods : List RawMethod) (bodies : List (Option (List Placed))) → AreClassBodies methods bodies → MethodsAre methods (insns_of_methods bodies)
methods_are [] [] are = MethodsAre.none
methods_are [] (body ∷ bodies) are = absurd are
methods_are (method ∷ methods) [] are = absurd are
methods_are (method ∷ methods) (body ∷ bodies) are = MethodsAre.next (insns_of_body body) (insns_of_methods bodies) (body_is method.code body are.0) (methods_are methods bodies are.1)
  where
    body_is : (code : Option RawCode) (body : Option (List Placed)) → IsBody code body → BodyIs code (insns_of_body body)
    body_is None None is = refl
    body_is None (Some placed) is = absurd is
    body_is (Some code) None is = absurd is
    body_is (Some code) (Some placed) is = is

classes_are : (classes : List RawClass) (bodies : List (List (Option (List Placed)))) → AreBodies classes bodies → ClassesAre classes (insns_of_classes bodies)
classes_are [] [] are = ClassesAre.none
classes_are [] (body ∷ bodies) are = absurd are
classes_are (class ∷ classes) [] are = absurd are
classes_are (class ∷ classes) (of_class ∷ bodies) are = ClassesAre.next (insns_of_methods of_class) (insns_of_classes bodies) (methods_are class.methods of_class are.0) (classes_are classes bodies are.1)

pub gathered : (classes : List RawClass) (bodies : List (List (Option (List Placed)))) (before after : MemberUses) → before.methods ≡ [] → before.fields ≡ [] →
    AddsUses (insns_of_classes bodies) before after → AreBodies classes bodies → AreUses classes after.methods after.fields
gathered classes bodies before after no_methods no_fields adds are =
    record {
      instructions = insns_of_classes bodies;
      are = classes_are classes bodies are;
      of_methods = adds.methods ∙ ap (λ xs. xs ++ method_uses_of (insns_of_classes bodies)) no_methods;
      of_fields = adds.fields ∙ ap (λ xs. xs ++ field_uses_of (insns_of_classes bodies)) no_fields;
    }
