-- A type that passes the test of casts is below the other one, as both are held.
use Rattle.std.proofs.Common.{◌≡◌, ◌⊎◌, inl, inr, ℕ, zero, suc, ◌==◌, ◌||◌, ◌&&◌, Bool, true, false, cond, length, Option, Some, None, refl, ap, subst, slice_get}
use Rattle.cc_meaning.specs.declared.program.Base.{Base}
use Rattle.cc_meaning.specs.declared.program.Base.TheVariants as base
use Rattle.cc_meaning.specs.declared.program.Class.{Class}
use Rattle.cc_meaning.specs.declared.program.ClassKind.{ClassKind}
use Rattle.cc_meaning.specs.declared.program.ClassKind.TheVariants as origin
use Rattle.cc_meaning.specs.declared.program.DexType.{DexType}
use Rattle.cc_meaning.specs.declared.program.Program.{Program}
use Rattle.cc_meaning_typing.specs.Hierarchy.{on_value, superclass_of, object_class, Inherits, itself, further}
use Rattle.cc_meaning_typing.specs.Types.{typed, class_type, is_class, is_reference_in, is_reference, is_loose_kind, is_loose_in, is_loose, held_base, held, IsBelow, same, object, elements, is_same_base}
use Rattle.cc_meaning_typing.specs.WellTyped.{is_of_file, is_file_interface}
use Rattle.cc_meaning_typing.proofs.Least.{test_base}
use Rattle.cc_meaning_world.specs.Layouts.{climbs, is_below}
use Rattle.cc_meaning_world.specs.Casts.{is_open_kind, is_open_in, is_open, counts_interfaces, implements, meets_class, passes_in, passes}
use Rattle.cc_meaning_fits.specs.Premises.{IsLinked}
use Rattle.cc_sound_laws.proofs.Tests.{same_true, either, both_true, not_true}
use Rattle.cc_sound_laws.proofs.Known.{object_above, class_up}

climbed_next : (p : Program) (class above : ℕ) (test : ℕ → Bool) → ((z : ℕ) → test z ≡ true → Inherits p z above) → (x : Option ℕ) → superclass_of p class ≡ x → on_value x false test ≡ true → Inherits p class above
unfolding on_value
climbed_next p class above test ih None s f = absurd (cc)
climbed_next p class above test ih (Some z) s f = further s (ih z f)

-- a class that is climbed to has the other below it
climbed : (p : Program) (n class above : ℕ) → climbs p n class above ≡ true → Inherits p class above
unfolding climbs
climbed p zero class above e = subst (λ z. Inherits p class z) (same_true class above e) itself
climbed p (suc n) class above e = elim (either _ _ e) [
  | inl f ↦ subst (λ z. Inherits p class z) (same_true class above f) itself
  | inr f ↦ climbed_next p class above (λ z. climbs p n z above) (λ z. climbed p n z above) (superclass_of p class) refl (both_true _ _ f).1
]

-- a class that is climbed to is the first one, or that is no interface
climbed_from : (p : Program) (n class above : ℕ) → climbs p n class above ≡ true → (class ≡ above) ⊎ (is_file_interface (slice_get p.classes class) ≡ false)
unfolding climbs
climbed_from p zero class above e = inl (same_true class above e)
climbed_from p (suc n) class above e = elim (either _ _ e) [ inl f ↦ inl (same_true class above f) | inr f ↦ inr (not_true _ (both_true _ _ f).0) ]

loose_below : (p : Program) (type : DexType) (above : ℕ) → is_loose p above ≡ true → IsBelow p type (held p (class_type above))
unfolding held held_base
loose_below p type above l = rw l (object refl)

-- an outside class that is no exception is loose
open_loose : (p : Program) (class : ℕ) → is_open p class ≡ true → is_loose p class ≡ true
unfolding is_open is_open_in is_open_kind is_loose is_loose_in is_loose_kind
open_loose p class e = by (slice_get p.classes class) e
  where
    kind : (k : ClassKind) (b : Bool) → is_open_kind k ≡ true → is_loose_kind k b ≡ true
    kind origin.Outside b e = refl
    kind origin.File b e = absurd (cc)
    kind origin.BuiltIn b e = absurd (cc)
    kind origin.OutsideError b e = absurd (cc)
    kind origin.Array b e = absurd (cc)

    by : (x : Option Class) → is_open_in x ≡ true → is_loose_in x ≡ true
    by None e = absurd (cc)
    by (Some c) e = kind c.kind c.is_interface e

-- an interface of the file is loose
interface_loose : (p : Program) (class : ℕ) → is_file_interface (slice_get p.classes class) ≡ true → is_loose p class ≡ true
unfolding is_file_interface is_of_file is_loose is_loose_in is_loose_kind
interface_loose p class e = by (slice_get p.classes class) e
  where
    kind : (k : ClassKind) (b : Bool) → (is_of_file k && b) ≡ true → is_loose_kind k b ≡ true
    kind origin.File b e = e
    kind origin.BuiltIn b e = absurd (cc)
    kind origin.Outside b e = absurd (cc)
    kind origin.OutsideError b e = absurd (cc)
    kind origin.Array b e = absurd (cc)

    by : (x : Option Class) → is_file_interface x ≡ true → is_loose_in x ≡ true
    by None e = absurd (cc)
    by (Some c) e = kind c.kind c.is_interface e

module _ (p : Program) (linked : IsLinked p) where
  below_class : (class above : ℕ) → is_below p class above ≡ true → IsBelow p (held p (class_type class)) (held p (class_type above))
  unfolding is_below
  below_class class above e = elim (climbed_from p (length p.classes) class above e) [
    | inl q ↦ subst (λ z. IsBelow p (held p (class_type class)) (held p (class_type z))) q same
    | inr f ↦ class_up p linked class above f (climbed p (length p.classes) class above e)
  ]

  counted : (class above : ℕ) → counts_interfaces p above ≡ true → IsBelow p (held p (class_type class)) (held p (class_type above))
  unfolding counts_interfaces
  counted class above e = elim (either _ _ e) [
    | inl f ↦ loose_below p _ above (open_loose p above f)
    | inr f ↦ loose_below p _ above (interface_loose p above f)
  ]

  meets_below : (cast : Bool) (class above : ℕ) → meets_class p cast (base.Class class) above ≡ true → IsBelow p (held p (class_type class)) (held p (class_type above))
  unfolding meets_class
  meets_below cast class above e =
      let implemented : Bool = counts_interfaces p above && implements p (length p.classes) class above in
      let opens : Bool = cast && is_open p above in
      elim (either (above == object_class p) (opens || (is_below p class above || implemented)) e) [
        | inl f ↦ object_above p linked _ above (same_true above (object_class p) f)
        | inr e2 ↦ elim (either opens (is_below p class above || implemented) e2) [
          | inl f ↦ loose_below p _ above (open_loose p above (both_true cast (is_open p above) f).1)
          | inr e3 ↦ elim (either (is_below p class above) implemented e3) [ inl f ↦ below_class class above f | inr f ↦ counted class above (both_true (counts_interfaces p above) (implements p (length p.classes) class above) f).0 ]
        ]
      ]

  meets : (cast : Bool) (a : Base) (above : ℕ) → meets_class p cast a above ≡ true → IsBelow p (held p (typed 0 a)) (held p (class_type above))
  unfolding meets_class
  meets cast (base.Class class) above e = meets_below cast class above e
  meets cast base.Boolean above e = absurd (cc)
  meets cast base.Byte above e = absurd (cc)
  meets cast base.Char above e = absurd (cc)
  meets cast base.Short above e = absurd (cc)
  meets cast base.Int above e = absurd (cc)
  meets cast base.Long above e = absurd (cc)

held_same : (p : Program) (n : ℕ) (a b : Base) → is_same_base a b ≡ true → IsBelow p (held p (typed n a)) (held p (typed n b))
held_same p n a b e = elim (test_base a b) [ inl t ↦ subst (λ z. IsBelow p (held p (typed n a)) (held p (typed n z))) t.1 same | inr t ↦ absurd (let f = t.0 in cc) ]

-- what passes as elements passes as arrays
in_arrays : (p : Program) (cast : Bool) (n : ℕ) (a : Base) (m : ℕ) (b : Base) → passes_in p cast n a m b ≡ true → IsBelow p (held p (typed n a)) (held p (typed m b)) → IsBelow p (held p (typed (suc n) a)) (held p (typed (suc m) b))
unfolding passes_in meets_class held held_base is_reference is_reference_in is_class
in_arrays p cast zero (base.Class c) zero (base.Class d) e ih = elements refl refl ih
in_arrays p cast zero base.Boolean zero (base.Class d) e ih = absurd (cc)
in_arrays p cast zero base.Byte zero (base.Class d) e ih = absurd (cc)
in_arrays p cast zero base.Short zero (base.Class d) e ih = absurd (cc)
in_arrays p cast zero base.Char zero (base.Class d) e ih = absurd (cc)
in_arrays p cast zero base.Int zero (base.Class d) e ih = absurd (cc)
in_arrays p cast zero base.Long zero (base.Class d) e ih = absurd (cc)
in_arrays p cast zero a zero b e ih = held_same p 1 a b e
in_arrays p cast zero a (suc m) b e ih = absurd (cc)
in_arrays p cast (suc n) a zero (base.Class d) e ih = elements refl refl ih
in_arrays p cast (suc n) a zero b e ih = absurd (cc)
in_arrays p cast (suc n) a (suc m) b e ih = elements refl refl ih

module _ (p : Program) (linked : IsLinked p) where
  array_meets : (cast : Bool) (type : DexType) (above : ℕ) → ((above == object_class p) || (cast && is_open p above)) ≡ true → IsBelow p type (held p (class_type above))
  array_meets cast type above e = elim (either _ _ e) [
    | inl f ↦ object_above p linked type above (same_true above (object_class p) f)
    | inr f ↦ loose_below p type above (open_loose p above (both_true _ _ f).1)
  ]

  passes_below_in : (cast : Bool) (n : ℕ) (a : Base) (m : ℕ) (b : Base) → passes_in p cast n a m b ≡ true → IsBelow p (held p (typed n a)) (held p (typed m b))
  unfolding passes_in
  passes_below_in cast zero a zero (base.Class d) e = meets p linked cast a d e
  passes_below_in cast zero a zero b e = held_same p 0 a b e
  passes_below_in cast zero a (suc m) b e = absurd (cc)
  passes_below_in cast (suc n) a zero (base.Class d) e = array_meets cast (held p (typed (suc n) a)) d e
  passes_below_in cast (suc n) a zero b e = absurd (cc)
  passes_below_in cast (suc n) a (suc m) b e = in_arrays p cast n a m b e (passes_below_in cast n a m b e)

  pub passes_below : (cast : Bool) (a b : DexType) → passes p cast a b ≡ true → IsBelow p (held p a) (held p b)
  unfolding passes
  passes_below cast a b e = passes_below_in cast a.dims a.base b.dims b.base e
