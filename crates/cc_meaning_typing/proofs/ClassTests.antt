-- The tests of classes by number say what the relations say.
use Rattle.std.proofs.Common.{◌≡◌, ◌<◌, length, cond, inl, inr, ℕ, zero, suc, Bool, true, false, ◌==◌, Option, Some, None, refl, sym, ap, ◌∙◌, subst}
use Rattle.std.specs.Prelude.{IsTrue, ◌↔◌}
use Rattle.cc_meaning.specs.declared.program.Base.TheVariants as base
use Rattle.cc_meaning.specs.declared.program.DexType.{DexType}
use Rattle.cc_meaning.specs.declared.program.Program.{Program}
use Rattle.cc_meaning.specs.declared.program.RegType.TheVariants.{Reference}
use Rattle.cc_meaning_typing.specs.Hierarchy.{on_value, superclass_of, object_class, climb, IsHierarchy, Inherits, itself, further, climbs_to, has_ancestor}
use Rattle.cc_meaning_typing.specs.Types.{is_loose, held_base, held, class_type, IsBelow, same, object, classes, fits_class}
use Rattle.cc_meaning_typing.specs.Registers.{Covers, references, same as same_register, register_of_kind, register_of, Fits}
use Rattle.cc_meaning_typing.specs.Laws.{ClassTestsDecide, ClassTests}
use Rattle.cc_meaning_typing.proofs.Tree.{test_eq, no_above_object}

module _ (program : Program) (hierarchy : IsHierarchy program) where
  abbrev o : ℕ
  o = object_class program

  -- ---- ancestors

  inherits_by : (n class ancestor : ℕ) (s : Option ℕ) → superclass_of program class ≡ s → on_value s false (λ above. climbs_to program n above ancestor) ≡ true → ((above : ℕ) → climbs_to program n above ancestor ≡ true → Inherits program above ancestor) → Inherits program class ancestor
  unfolding on_value
  inherits_by n class ancestor None e h ih = absurd (cc)
  inherits_by n class ancestor (Some above) e h ih = further e (ih above h)

  inherits : (n class ancestor : ℕ) → climbs_to program n class ancestor ≡ true → Inherits program class ancestor
  unfolding climbs_to
  inherits zero class ancestor e = elim (test_eq class ancestor) [
    | inl t ↦ subst (λ z. Inherits program class z) t.1 itself
    | inr t ↦ absurd (let f = sym t.0 ∙ e in cc)
  ]
  inherits (suc n) class ancestor e = elim (test_eq class ancestor) [
    | inl t ↦ subst (λ z. Inherits program class z) t.1 itself
    | inr t ↦ inherits_by n class ancestor (superclass_of program class) refl (rw t.0 at e) (λ above h. inherits n above ancestor h)
  ]

  equal : (class : ℕ) → (class == class) ≡ true
  equal class = elim (test_eq class class) [ inl t ↦ t.0 | inr t ↦ absurd (t.1 refl) ]

  climbs_itself : (n class : ℕ) → climbs_to program n class class ≡ true
  unfolding climbs_to
  climbs_itself zero class = equal class
  climbs_itself (suc n) class = rw (equal class) refl

  either : (a b : Bool) → b ≡ true → cond a true b ≡ true
  either true b e = refl
  either false b e = e

  climbs : (n class ancestor : ℕ) → climb program n class ≡ o → Inherits program class ancestor → climbs_to program n class ancestor ≡ true
  unfolding climb climbs_to on_value
  climbs n class ancestor e itself = climbs_itself n class
  climbs zero class ancestor e (further {above = s} f h) = absurd (no_above_object program hierarchy class s f e)
  climbs (suc n) class ancestor e (further {above = s} f h) = either (class == ancestor) _ (rw f (climbs n s ancestor (rw f at e) h))

  inherits_object_by : (n class : ℕ) (s : Option ℕ) → superclass_of program class ≡ s → on_value s class (λ above. climb program n above) ≡ o → ((above : ℕ) → climb program n above ≡ o → Inherits program above o) → Inherits program class o
  unfolding on_value
  inherits_object_by n class None e h ih = subst (λ z. Inherits program class z) h itself
  inherits_object_by n class (Some above) e h ih = further e (ih above h)

  inherits_object : (n class : ℕ) → climb program n class ≡ o → Inherits program class o
  unfolding climb
  inherits_object zero class e = subst (λ z. Inherits program class z) e itself
  inherits_object (suc n) class e = inherits_object_by n class (superclass_of program class) refl e (λ above h. inherits_object n above h)

  ancestors : (class ancestor : ℕ) → class < length program.classes → IsTrue (has_ancestor program class ancestor) ↔ Inherits program class ancestor
  unfolding has_ancestor
  ancestors class ancestor l = (inherits (length program.classes) class ancestor, climbs (length program.classes) class ancestor (hierarchy.leads class l))

  -- ---- objects

  class_of_type : (a b : ℕ) → class_type a ≡ class_type b → a ≡ b
  class_of_type a b e = let f : base.Class a ≡ base.Class b = ap (λ (z : DexType). z.base) e in cc

  inherits_below : (class declared : ℕ) → class < length program.classes → IsBelow program (class_type class) (class_type declared) → Inherits program class declared
  inherits_below class declared l same = itself
  inherits_below class declared l (object e) = subst (λ z. Inherits program class z) (sym (class_of_type declared o e)) (inherits_object (length program.classes) class (hierarchy.leads class l))
  inherits_below class declared l (classes h held) = h

  inherits_covered : (class declared : ℕ) → class < length program.classes → Covers program (Reference (class_type declared)) (Reference (class_type class)) → Inherits program class declared
  inherits_covered class declared l same_register = itself
  inherits_covered class declared l (references h) = inherits_below class declared l h

  objects_by : (class declared : ℕ) (loose : Bool) → is_loose program declared ≡ loose → class < length program.classes → IsTrue (cond loose true (has_ancestor program class declared)) ↔ Covers program (Reference (class_type (cond loose o declared))) (Reference (class_type class))
  objects_by class declared true e l = (λ h. references (object refl), λ h. refl)
  objects_by class declared false e l =
      let test = ancestors class declared l in
      (λ h. references (classes (test.0 h) e), λ h. test.1 (inherits_covered class declared l h))

  objects : (class declared : ℕ) → class < length program.classes → IsTrue (fits_class program class declared) ↔ Fits program (Reference (class_type class)) (class_type declared)
  unfolding fits_class held held_base register_of register_of_kind
  objects class declared l = objects_by class declared (is_loose program declared) refl l

  decide : ClassTestsDecide program
  decide = record { ancestors = ancestors; objects = objects }

pub class_tests : ClassTests
class_tests program hierarchy = decide program hierarchy
