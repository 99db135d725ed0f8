-- A type is below another exactly where it rises to it.
use Rattle.std.proofs.Common.{◌≡◌, ◌≢◌, ◌⊎◌, ◌≤◌, length, cond, arith, inl, inr, ℕ, zero, suc, Bool, true, false, ◌==◌, Option, Some, None, refl, sym, ap, ◌∙◌, subst}
use Rattle.cc_meaning.specs.declared.program.Base.{Base}
use Rattle.cc_meaning.specs.declared.program.Base.TheVariants as base
use Rattle.cc_meaning.specs.declared.program.DexType.{DexType}
use Rattle.cc_meaning.specs.declared.program.Program.{Program}
use Rattle.cc_meaning_typing.specs.Hierarchy.{on_value, superclass_of, object_class, climb, IsHierarchy, Inherits, itself, further}
use Rattle.cc_meaning_typing.specs.Types.{is_loose, first_held, typed, class_type, object_type, array_of, is_class, is_reference_in, is_reference, IsBelow, same, object, classes, elements, class_above, fewer, above_objects, next_in, next_above}
use Rattle.cc_meaning_typing.specs.Heights.{depth}
use Rattle.cc_meaning_typing.proofs.Tree.{test_eq, Rises, here, on, above_some, above_none, next_none, to_object, first_object, depth_above, no_above_object, rises_to_object}

module _ (program : Program) (hierarchy : IsHierarchy program) where
  abbrev o : ℕ
  o = object_class program

  next_is : (dims : ℕ) (b : Base) (n : Option DexType) → next_in program dims b ≡ n → next_above program (typed dims b) ≡ n
  unfolding next_above
  next_is dims b n e = e

  -- ---- what is below rises

  next_class : (class : ℕ) → class ≢ o → next_above program (class_type class) ≡ Some (class_type (class_above program class))
  unfolding next_above next_in
  next_class class ne = elim (test_eq class o) [
    | inl t ↦ absurd (ne t.1)
    | inr t ↦ rw t.0 refl
  ]

  from_object : {class above : ℕ} → Inherits program class above → class ≡ o → above ≡ o
  from_object itself e = e
  from_object (further {class = c} {above = s} f h) e = absurd (no_above_object program hierarchy c s f e)

  -- what a class inherits from and registers hold, the first that they hold from that class up inherits from
  held_by : (t : Bool) (class above ancestor : ℕ) → is_loose program class ≡ t → Inherits program class ancestor → Inherits program above ancestor → Inherits program (cond t above class) ancestor
  held_by true class above ancestor e h g = g
  held_by false class above ancestor e h g = h

  held_inherits : (n m class ancestor : ℕ) → climb program n class ≡ o → n ≤ m → Inherits program class ancestor → is_loose program ancestor ≡ false → Inherits program (first_held program m class) ancestor
  unfolding first_held on_value climb
  held_inherits zero m class ancestor e l h held = subst (λ z. Inherits program (first_held program m z) ancestor) (sym e) (subst (λ z. Inherits program z ancestor) (sym (first_object program hierarchy m)) (subst (λ z. Inherits program o z) (sym (from_object h e)) itself))
  held_inherits (suc n) zero class ancestor e l h held = absurd (omega arith)
  held_inherits (suc n) (suc m) class ancestor e l itself held = rw held itself
  held_inherits (suc n) (suc m) class ancestor e l (further {above = s} f h) held =
      rw f (held_by (is_loose program class) class (first_held program m s) ancestor refl (further f h) (held_inherits n m s ancestor (rw f at e) (omega arith) h held))

  above_inherits_by : (n class above ancestor : ℕ) → superclass_of program class ≡ Some above → climb program n class ≡ o → n ≤ length program.classes → Inherits program above ancestor → is_loose program ancestor ≡ false → Inherits program (class_above program class) ancestor
  unfolding climb on_value
  above_inherits_by zero class above ancestor e c l h held = absurd (no_above_object program hierarchy class above e c)
  above_inherits_by (suc n) class above ancestor e c l h held = subst (λ z. Inherits program z ancestor) (sym (above_some program hierarchy class above e)) (held_inherits n (length program.classes) above ancestor (rw e at c) (omega arith) h held)

  above_inherits : (class above ancestor : ℕ) → superclass_of program class ≡ Some above → Inherits program above ancestor → is_loose program ancestor ≡ false → Inherits program (class_above program class) ancestor
  above_inherits class above ancestor e h held = above_inherits_by (length program.classes) class above ancestor e (rises_to_object program hierarchy class above e) (omega arith) h held

  classes_rise : (n : ℕ) {class above : ℕ} → depth program class ≤ n → Inherits program class above → is_loose program above ≡ false → Rises program (class_type class) (class_type above)
  classes_rise n l itself held = here
  classes_rise zero l (further {class = c} {above = s} e h) held = let d = depth_above program hierarchy c (no_above_object program hierarchy c s e) in absurd (omega arith)
  classes_rise (suc n) l (further {class = c} {above = s} e h) held =
      let d = depth_above program hierarchy c (no_above_object program hierarchy c s e) in
      on (next_class c (no_above_object program hierarchy c s e)) (classes_rise n (omega arith) (above_inherits c s _ e h held) held)

  abbrev Lifts : ℕ → Base → DexType → Type 0
  Lifts dims b s = (next_in program (suc dims) b ≡ Some (array_of s)) × (is_reference s ≡ true)

  object_is_reference : (dims : ℕ) → is_reference_in dims (base.Class o) ≡ true
  unfolding is_reference_in is_class
  object_is_reference zero = refl
  object_is_reference (suc dims) = refl

  class_is_reference : (dims class : ℕ) → is_reference_in dims (base.Class class) ≡ true
  unfolding is_reference_in is_class
  class_is_reference zero class = refl
  class_is_reference (suc dims) class = refl

  lifts_object : (dims class : ℕ) (s : DexType) → (class == o) ≡ true → above_objects program dims ≡ Some s → Lifts dims (base.Class class) s
  unfolding above_objects next_in is_reference
  lifts_object zero class s t e = cc
  lifts_object (suc dims) class s t e = let f : typed dims (base.Class o) ≡ s = cc in rw (t, ← f) (refl, object_is_reference dims)

  lifts_class : (dims class : ℕ) (s : DexType) → next_in program dims (base.Class class) ≡ Some s → Lifts dims (base.Class class) s
  unfolding next_in is_reference
  lifts_class dims class s e = elim (test_eq class o) [
    | inl t ↦ lifts_object dims class s t.0 (rw t.0 at e)
    | inr t ↦ let e2 = rw t.0 at e in let f : typed dims (base.Class (class_above program class)) ≡ s = cc in rw (t.0, ← f) (refl, class_is_reference dims (class_above program class))
  ]

  abbrev LiftsNumber : ℕ → DexType → Type 0
  LiftsNumber dims s = (Some (typed dims (base.Class o)) ≡ Some (array_of s)) × (is_reference s ≡ true)

  lifts_number : (dims : ℕ) (s : DexType) → is_reference_in dims base.Int ≡ true → Some (typed (fewer dims) (base.Class o)) ≡ Some s → LiftsNumber dims s
  unfolding is_reference_in is_class fewer is_reference
  lifts_number zero s r e = cc
  lifts_number (suc dims) s r e = let f : typed dims (base.Class o) ≡ s = cc in rw (← f) (refl, object_is_reference dims)

  lifts_in : (dims : ℕ) (b : Base) (s : DexType) → is_reference_in dims b ≡ true → next_in program dims b ≡ Some s → Lifts dims b s
  unfolding next_in is_reference_in fewer is_class
  lifts_in dims (base.Class class) s r e = lifts_class dims class s e
  lifts_in zero base.Boolean s r e = cc
  lifts_in (suc dims) base.Boolean s r e = lifts_number (suc dims) s refl e
  lifts_in zero base.Byte s r e = cc
  lifts_in (suc dims) base.Byte s r e = lifts_number (suc dims) s refl e
  lifts_in zero base.Short s r e = cc
  lifts_in (suc dims) base.Short s r e = lifts_number (suc dims) s refl e
  lifts_in zero base.Char s r e = cc
  lifts_in (suc dims) base.Char s r e = lifts_number (suc dims) s refl e
  lifts_in zero base.Int s r e = cc
  lifts_in (suc dims) base.Int s r e = lifts_number (suc dims) s refl e
  lifts_in zero base.Long s r e = cc
  lifts_in (suc dims) base.Long s r e = lifts_number (suc dims) s refl e

  lifts : (t s : DexType) → is_reference t ≡ true → next_above program t ≡ Some s → (next_above program (array_of t) ≡ Some (array_of s)) × (is_reference s ≡ true)
  unfolding next_above is_reference
  lifts t s r e = lifts_in t.dims t.base s r e

  arrays_rise : {a b : DexType} → is_reference a ≡ true → Rises program a b → Rises program (array_of a) (array_of b)
  arrays_rise r here = here
  arrays_rise r (on {type = a} {above = s} e h) = let x = lifts a s r e in on x.0 (arrays_rise x.1 h)

  pub rises_of : {a b : DexType} → IsBelow program a b → Rises program a b
  rises_of same = here
  rises_of (object {type = a} e) = subst (λ z. Rises program a z) (sym e) (to_object program hierarchy a)
  rises_of (classes {class = c} h held) = classes_rise (depth program c) (omega arith) h held
  rises_of (elements r1 r2 h) = arrays_rise r1 (rises_of h)

  -- ---- what rises is below

  abbrev Lowered : DexType → DexType → Type 0
  Lowered t u = (w : DexType) × (t ≡ array_of w) × (next_above program w ≡ Some u) × (is_reference w ≡ true)

  lowered_class : (dims class : ℕ) (u : DexType) → next_in program dims (base.Class class) ≡ Some (array_of u) → Lowered (typed dims (base.Class class)) u
  unfolding next_in next_above above_objects is_reference
  lowered_class zero class u e = elim (test_eq class o) [
    | inl t ↦ let e2 = rw t.0 at e in cc
    | inr t ↦ let e2 = rw t.0 at e in let f : typed zero (base.Class (class_above program class)) ≡ array_of u = cc in let g = ap (λ (z : DexType). z.dims) f in cc
  ]
  lowered_class (suc dims) class u e = elim (test_eq class o) [
    | inl t ↦
        let e2 = rw t.0 at e in
        let f : typed dims (base.Class o) ≡ array_of u = cc in
        let g : dims ≡ suc u.dims = ap (λ (z : DexType). z.dims) f in
        let b : base.Class o ≡ u.base = ap (λ (z : DexType). z.base) f in
        (typed dims (base.Class class), refl, rw (g, t.0) (rw b refl), class_is_reference dims class)
    | inr t ↦
        let e2 = rw t.0 at e in
        let f : typed (suc dims) (base.Class (class_above program class)) ≡ array_of u = cc in
        let g : suc dims ≡ suc u.dims = ap (λ (z : DexType). z.dims) f in
        let k : dims ≡ u.dims = cc in
        let b : base.Class (class_above program class) ≡ u.base = ap (λ (z : DexType). z.base) f in
        (typed dims (base.Class class), refl, rw (t.0, k, b) refl, class_is_reference dims class)
  ]

  abbrev LoweredNumber : ℕ → Base → DexType → Type 0
  LoweredNumber dims b u = Some (typed (fewer dims) (base.Class o)) ≡ Some (array_of u) → ((d : ℕ) → next_in program d b ≡ Some (typed (fewer d) (base.Class o))) → Lowered (typed dims b) u

  lowered_number : (dims : ℕ) (b : Base) (u : DexType) → LoweredNumber dims b u
  unfolding fewer next_above is_reference is_reference_in
  lowered_number zero b u e n = let f : typed zero (base.Class o) ≡ array_of u = cc in let g : zero ≡ suc u.dims = ap (λ (z : DexType). z.dims) f in cc
  lowered_number (suc zero) b u e n = let f : typed zero (base.Class o) ≡ array_of u = cc in let g : zero ≡ suc u.dims = ap (λ (z : DexType). z.dims) f in cc
  lowered_number (suc (suc dims)) b u e n =
      let f : typed (suc dims) (base.Class o) ≡ array_of u = cc in
      let g : suc dims ≡ suc u.dims = ap (λ (z : DexType). z.dims) f in
      let k : dims ≡ u.dims = cc in
      let c : base.Class o ≡ u.base = ap (λ (z : DexType). z.base) f in
      (typed (suc dims) b, refl, n (suc dims) ∙ (rw (k, c) refl), refl)

  lowered_in : (dims : ℕ) (b : Base) (u : DexType) → next_in program dims b ≡ Some (array_of u) → Lowered (typed dims b) u
  unfolding next_in
  lowered_in dims (base.Class class) u e = lowered_class dims class u e
  lowered_in dims base.Boolean u e = lowered_number dims base.Boolean u e (λ d. refl)
  lowered_in dims base.Byte u e = lowered_number dims base.Byte u e (λ d. refl)
  lowered_in dims base.Short u e = lowered_number dims base.Short u e (λ d. refl)
  lowered_in dims base.Char u e = lowered_number dims base.Char u e (λ d. refl)
  lowered_in dims base.Int u e = lowered_number dims base.Int u e (λ d. refl)
  lowered_in dims base.Long u e = lowered_number dims base.Long u e (λ d. refl)

  lowered : (t u : DexType) → next_above program t ≡ Some (array_of u) → Lowered t u
  unfolding next_above
  lowered t u e = lowered_in t.dims t.base u e

  inherits_trans : {a b c : ℕ} → Inherits program a b → Inherits program b c → Inherits program a c
  inherits_trans itself h = h
  inherits_trans (further e g) h = further e (inherits_trans g h)

  -- what is next above a class is Object, or one of its superclasses, which registers hold
  abbrev Ancestor : ℕ → ℕ → Type 0
  Ancestor class above = (above ≡ o) ⊎ (Inherits program class above × (is_loose program above ≡ false))

  ancestor_by : (t : Bool) (class above : ℕ) → is_loose program class ≡ t → Ancestor class above → Ancestor class (cond t above class)
  ancestor_by true class above e h = h
  ancestor_by false class above e h = inr (itself, e)

  ancestor_of : (m class : ℕ) (s : Option ℕ) → superclass_of program class ≡ s → ((above : ℕ) → superclass_of program class ≡ Some above → Ancestor above (first_held program m above)) → Ancestor class (first_held program (suc m) class)
  unfolding first_held on_value
  ancestor_of m class None e ih = rw e (ancestor_by (is_loose program class) class o refl (inl refl))
  ancestor_of m class (Some above) e ih = rw e (ancestor_by (is_loose program class) class (first_held program m above) refl (elim (ih above e) [ inl f ↦ inl f | inr h ↦ inr (further e h.0, h.1) ]))

  held_ancestor : (m class : ℕ) → Ancestor class (first_held program m class)
  unfolding first_held
  held_ancestor zero class = inl refl
  held_ancestor (suc m) class = ancestor_of m class (superclass_of program class) refl (λ above e. held_ancestor m above)

  next_ancestor_by : (class : ℕ) (s : Option ℕ) → superclass_of program class ≡ s → Ancestor class (class_above program class)
  next_ancestor_by class None e = inl (above_none program hierarchy class e)
  next_ancestor_by class (Some above) e = subst (Ancestor class) (sym (above_some program hierarchy class above e)) (elim (held_ancestor (length program.classes) above) [ inl f ↦ inl f | inr h ↦ inr (further e h.0, h.1) ])

  next_ancestor : (class : ℕ) → Ancestor class (class_above program class)
  next_ancestor class = next_ancestor_by class (superclass_of program class) refl

  -- a type whose next one is a class's is that of a class below it, or the next one is Object
  abbrev Under : DexType → ℕ → Type 0
  Under t class = (class ≡ o) ⊎ ((c : ℕ) × (t ≡ class_type c) × Inherits program c class)

  under_stated : (class above : ℕ) → class_above program class ≡ above → Under (class_type class) above
  under_stated class above f = elim (next_ancestor class) [
    | inl e ↦ inl (sym f ∙ e)
    | inr h ↦ inr (class, refl, subst (λ z. Inherits program class z) f h.0)
  ]

  under_object : (dims above : ℕ) → typed dims (base.Class o) ≡ class_type above → above ≡ o
  under_object dims above f = let b : base.Class o ≡ base.Class above = ap (λ (z : DexType). z.base) f in cc

  under_class : (dims class above : ℕ) → next_in program dims (base.Class class) ≡ Some (class_type above) → Under (typed dims (base.Class class)) above
  unfolding next_in above_objects
  under_class zero class above e = elim (test_eq class o) [
    | inl t ↦ let e2 = rw t.0 at e in cc
    | inr t ↦ let e2 = rw t.0 at e in let f : typed zero (base.Class (class_above program class)) ≡ class_type above = cc in let b : base.Class (class_above program class) ≡ base.Class above = ap (λ (z : DexType). z.base) f in let g : class_above program class ≡ above = cc in under_stated class above g
  ]
  under_class (suc dims) class above e = elim (test_eq class o) [
    | inl t ↦ let e2 = rw t.0 at e in inl (under_object dims above (cc))
    | inr t ↦ let e2 = rw t.0 at e in let f : typed (suc dims) (base.Class (class_above program class)) ≡ class_type above = cc in let g : suc dims ≡ zero = ap (λ (z : DexType). z.dims) f in cc
  ]

  under_in : (dims : ℕ) (b : Base) (above : ℕ) → next_in program dims b ≡ Some (class_type above) → Under (typed dims b) above
  unfolding next_in
  under_in dims (base.Class class) above e = under_class dims class above e
  under_in dims base.Boolean above e = inl (under_object (fewer dims) above (cc))
  under_in dims base.Byte above e = inl (under_object (fewer dims) above (cc))
  under_in dims base.Short above e = inl (under_object (fewer dims) above (cc))
  under_in dims base.Char above e = inl (under_object (fewer dims) above (cc))
  under_in dims base.Int above e = inl (under_object (fewer dims) above (cc))
  under_in dims base.Long above e = inl (under_object (fewer dims) above (cc))

  under : (t : DexType) (above : ℕ) → next_above program t ≡ Some (class_type above) → Under t above
  unfolding next_above
  under t above e = under_in t.dims t.base above e

  next_zero_class : (class : ℕ) → IsBelow program (class_type class) (class_type (class_above program class))
  next_zero_class class = elim (next_ancestor class) [
    | inl e ↦ object (ap class_type e)
    | inr h ↦ classes h.0 h.1
  ]

  next_zero : (b : Base) (s : DexType) → next_in program zero b ≡ Some s → IsBelow program (typed zero b) s
  unfolding next_in above_objects fewer
  next_zero (base.Class class) s e = elim (test_eq class o) [
    | inl t ↦ let e2 = rw t.0 at e in cc
    | inr t ↦ let e2 = rw t.0 at e in let f : class_type (class_above program class) ≡ s = cc in rw (← f) (next_zero_class class)
  ]
  next_zero base.Boolean s e = object (cc)
  next_zero base.Byte s e = object (cc)
  next_zero base.Short s e = object (cc)
  next_zero base.Char s e = object (cc)
  next_zero base.Int s e = object (cc)
  next_zero base.Long s e = object (cc)

  numbers_next : (dims : ℕ) (b : Base) → is_reference_in dims b ≡ false → next_in program (suc dims) b ≡ Some (object_type program)
  unfolding is_reference_in is_class next_in fewer
  numbers_next (suc dims) b r = cc
  numbers_next zero (base.Class class) r = cc
  numbers_next zero base.Boolean r = refl
  numbers_next zero base.Byte r = refl
  numbers_next zero base.Short r = refl
  numbers_next zero base.Char r = refl
  numbers_next zero base.Int r = refl
  numbers_next zero base.Long r = refl

  objects_next : next_in program (suc zero) (base.Class o) ≡ Some (object_type program)
  unfolding next_in above_objects
  objects_next = elim (test_eq o o) [ inl t ↦ rw t.0 refl | inr t ↦ absurd (t.1 refl) ]

  array_next_below : (dims : ℕ) (b : Base) (s : DexType) (r : Bool) (n : Option DexType) → is_reference_in dims b ≡ r → next_in program dims b ≡ n → next_in program (suc dims) b ≡ Some s → ((u : DexType) → next_in program dims b ≡ Some u → IsBelow program (typed dims b) u) → IsBelow program (typed (suc dims) b) s
  unfolding is_reference
  array_next_below dims b s false n r e f go = let g = numbers_next dims b r in object (cc)
  array_next_below dims b s true None r e f go =
      let t = next_none program hierarchy (typed dims b) (next_is dims b None e) in
      let d : dims ≡ zero = ap (λ (z : DexType). z.dims) t in
      let c : b ≡ base.Class o = ap (λ (z : DexType). z.base) t in
      let g = objects_next in
      let f2 = rw (d, c) at f in
      object (cc)
  array_next_below dims b s true (Some u) r e f go =
      let x = lifts_in dims b u r e in
      let g = x.0 in
      let h : array_of u ≡ s = cc in
      rw (← h) (elements r x.1 (go u e))

  next_below_in : (dims : ℕ) (b : Base) (s : DexType) → next_in program dims b ≡ Some s → IsBelow program (typed dims b) s
  next_below_in zero b s e = next_zero b s e
  next_below_in (suc dims) b s e = array_next_below dims b s (is_reference_in dims b) (next_in program dims b) refl refl e (next_below_in dims b)

  next_below : (t s : DexType) → next_above program t ≡ Some s → IsBelow program t s
  unfolding next_above
  next_below t s e = next_below_in t.dims t.base s e

  step : {s u : DexType} → IsBelow program s u → (t : DexType) → next_above program t ≡ Some s → IsBelow program t u
  step (same {type = s}) t e = next_below t s e
  step (object f) t e = object f
  step (classes {class = c} {above = d} h held) t e = elim (under t c e) [
    | inl f ↦ object (ap class_type (from_object h f))
    | inr x ↦ rw x.1 (classes (inherits_trans x.2 h) held)
  ]
  step (elements {type = v} r1 r2 h) t e = let x = lowered t v e in rw x.1 (elements x.3 r2 (step h x.0 x.2))

  pub below_of : {a b : DexType} → Rises program a b → IsBelow program a b
  below_of here = same
  below_of (on e h) = step (below_of h) _ e
