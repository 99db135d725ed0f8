-- The types of a hierarchy are a tree: each but Object has one next above it, one step nearer to Object.
use Rattle.std.proofs.Common.{◌≡◌, ◌≢◌, ◌⊎◌, inl, inr, ℕ, zero, suc, ◌+◌, ◌<◌, ◌≤◌, Bool, true, false, cond, ◌==◌, [], length, Option, Some, None, refl, sym, ap, ◌∙◌, subst, arith}
use Rattle.std.proofs.lemmas.Bool.Decides.{nat_tests}
use Rattle.std.proofs.lemmas.List.Quantifiers.{position-Some}
use Rattle.std.proofs.lemmas.Option.{slice_get_past}
use Rattle.cc_meaning.specs.declared.program.Base.{Base}
use Rattle.cc_meaning.specs.declared.program.Base.TheVariants as base
use Rattle.cc_meaning.specs.declared.program.Class.{Class}
use Rattle.cc_meaning.specs.declared.program.ClassKind.TheVariants as origin
use Rattle.cc_meaning.specs.declared.program.DexType.{DexType}
use Rattle.cc_meaning.specs.declared.program.Program.{Program}
use Rattle.cc_meaning_typing.specs.Hierarchy.{on_value, superclass_in, superclass_of, object_class, climb, IsHierarchy}
use Rattle.cc_meaning_typing.specs.Types.{is_loose, first_held, typed, object_type, class_above, fewer, above_objects, next_in, next_above}
use Rattle.cc_meaning_typing.specs.Heights.{height_in, height, depth_in, depth, rank_in, rank}

pub test_eq : (a b : ℕ) → (((a == b) ≡ true) × (a ≡ b)) ⊎ (((a == b) ≡ false) × (a ≢ b))
test_eq a b = grind (arith, nat_tests)

no_class : Class
no_class = record { name = []; kind = origin.File; superclass = None; interfaces = []; is_interface = false; is_abstract = false; layout = []; initialiser = None; values = [] }

-- a class is so many steps below Object
pub data Height (program : Program) : ℕ → ℕ → Type 0 where
  at_object : {class : ℕ} → class ≡ object_class program → Height program zero class
  under : {n class : ℕ} → class ≢ object_class program → Height program n (class_above program class) → Height program (suc n) class

pub data Rises (program : Program) : DexType → DexType → Type 0 where
  here : {type : DexType} → Rises program type type
  on : {type above top : DexType} → next_above program type ≡ Some above → Rises program above top → Rises program type top

module _ (program : Program) (hierarchy : IsHierarchy program) where
  abbrev o : ℕ
  o = object_class program

  abbrev N : ℕ
  N = length program.classes

  abbrev Within : ℕ → ℕ → Type 0
  Within n class = (k : ℕ) × (k ≤ n) × Height program k class

  cond_same : (t : Bool) (n : ℕ) → cond t n n ≡ n
  cond_same true n = refl
  cond_same false n = refl

  pub first_object : (m : ℕ) → first_held program m o ≡ o
  unfolding first_held on_value
  first_object zero = refl
  first_object (suc m) = rw hierarchy.top (cond_same (is_loose program o) o)

  pub above_some : (class above : ℕ) → superclass_of program class ≡ Some above → class_above program class ≡ first_held program N above
  unfolding class_above on_value
  above_some class above e = rw e refl

  pub above_none : (class : ℕ) → superclass_of program class ≡ None → class_above program class ≡ o
  unfolding class_above on_value
  above_none class e = rw e refl

  -- a class is near to Object, and so is what registers hold in its place
  abbrev Both : ℕ → ℕ → Type 0
  Both n class = Within n class × ((m : ℕ) → Within n (first_held program m class))

  both_object : (n class : ℕ) → class ≡ o → Both n class
  both_object n class e = ((0, omega arith, at_object e), λ m. (0, omega arith, at_object (ap (first_held program m) e ∙ first_object m)))

  held_by : (n class : ℕ) (t : Bool) (above : ℕ) → Within (suc n) class → Within n above → Within (suc n) (cond t above class)
  held_by n class true above x y = (y.0, omega arith, y.2)
  held_by n class false above x y = x

  held_within : (n class above m : ℕ) → superclass_of program class ≡ Some above → Within (suc n) class → ((m : ℕ) → Within n (first_held program m above)) → Within (suc n) (first_held program m class)
  unfolding first_held on_value
  held_within n class above zero e x y = (0, omega arith, at_object refl)
  held_within n class above (suc m) e x y = rw e (held_by n class (is_loose program class) (first_held program m above) x (y m))

  climbs_step : (n class : ℕ) (s : Option ℕ) → class ≢ o → superclass_of program class ≡ s → on_value s class (λ above. climb program n above) ≡ o → ((above : ℕ) → climb program n above ≡ o → Both n above) → Both (suc n) class
  unfolding on_value
  climbs_step n class None ne e h ih = absurd (ne h)
  climbs_step n class (Some above) ne e h ih =
      let x = ih above h in
      let y = x.1 N in
      let z : Within (suc n) class = (suc y.0, omega arith, under ne (rw (above_some class above e) y.2)) in
      (z, λ m. held_within n class above m e z x.1)

  climbs : (n class : ℕ) → climb program n class ≡ o → Both n class
  unfolding climb
  climbs zero class e = both_object zero class e
  climbs (suc n) class e = elim (test_eq class o) [
    | inl t ↦ both_object (suc n) class t.1
    | inr t ↦ climbs_step n class (superclass_of program class) t.1 refl e (climbs n)
  ]

  pub object_inside : o < N
  object_inside = (position-Some _ _ _ no_class hierarchy.object).0

  outside : (class : ℕ) → N ≤ class → superclass_of program class ≡ None
  unfolding superclass_of superclass_in
  outside class h = rw (slice_get_past program.classes class h) refl

  near_in : (class : ℕ) → ((class < N) ⊎ (N ≤ class)) → Within N class
  near_in class (inl l) = (climbs N class (hierarchy.leads class l)).0
  near_in class (inr l) = elim (test_eq class o) [
    | inl t ↦ (0, omega arith, at_object t.1)
    | inr t ↦ let k = object_inside in (1, omega arith, under t.1 (at_object (above_none class (outside class l))))
  ]

  side : (a b : ℕ) → (a < b) ⊎ (b ≤ a)
  side a b = grind arith

  near : (class : ℕ) → Within N class
  near class = near_in class (side class N)

  depth_is : (n : ℕ) {k class : ℕ} → Height program k class → k ≤ n → depth_in program n class ≡ k
  unfolding depth_in
  depth_is zero (at_object e) l = refl
  depth_is (suc n) {class = class} (at_object e) l = elim (test_eq class o) [
    | inl t ↦ rw t.0 refl
    | inr t ↦ absurd (t.1 e)
  ]
  depth_is zero (under ne h) l = absurd (omega arith)
  depth_is (suc n) {class = class} (under ne h) l = elim (test_eq class o) [
    | inl t ↦ absurd (ne t.1)
    | inr t ↦ rw t.0 (ap suc (depth_is n h (omega arith)))
  ]

  pub depth_object : depth program o ≡ 0
  unfolding depth
  depth_object = depth_is N (at_object refl) (omega arith)

  pub depth_bound : (class : ℕ) → depth program class ≤ N
  unfolding depth
  depth_bound class = let x = near class in let e = depth_is N x.2 x.1 in omega arith

  depth_of : {k : ℕ} (class : ℕ) → class ≢ o → k ≤ N → Height program k class → depth program class ≡ suc (depth program (class_above program class))
  unfolding depth
  depth_of class ne l (at_object e) = absurd (ne e)
  depth_of class ne l (under {n = n} not h) = depth_is N (under not h) l ∙ ap suc (sym (depth_is N h (omega arith)))

  pub depth_above : (class : ℕ) → class ≢ o → depth program class ≡ suc (depth program (class_above program class))
  depth_above class ne = let x = near class in depth_of class ne x.1 x.2

  pub no_above_object : (class above : ℕ) → superclass_of program class ≡ Some above → class ≡ o → ⊥
  no_above_object class above e c = let t = hierarchy.top in let f : superclass_of program class ≡ None = rw c t in cc

  has_above : (class above : ℕ) → superclass_of program class ≡ Some above → ((class < N) ⊎ (N ≤ class)) → class < N
  has_above class above e (inl l) = l
  has_above class above e (inr l) = let f = outside class l in absurd (cc)

  -- a class with a superclass is one of the program's, so that the way up from it ends at Object
  pub rises_to_object : (class above : ℕ) → superclass_of program class ≡ Some above → climb program N class ≡ o
  rises_to_object class above e = hierarchy.leads class (has_above class above e (side class N))

  height_none : (m class : ℕ) → superclass_of program class ≡ None → height_in program m class ≡ 0
  unfolding height_in on_value
  height_none zero class e = refl
  height_none (suc m) class e = rw e refl

  height_stable_by : (n m class : ℕ) (s : Option ℕ) → superclass_of program class ≡ s → on_value s class (λ above. climb program n above) ≡ o → ((above : ℕ) → climb program n above ≡ o → height_in program m above ≡ height_in program n above) → height_in program (suc m) class ≡ height_in program (suc n) class
  unfolding height_in on_value
  height_stable_by n m class None e h ih = rw e refl
  height_stable_by n m class (Some above) e h ih = rw e (ap suc (ih above h))

  height_stable : (n m class : ℕ) → climb program n class ≡ o → n ≤ m → height_in program m class ≡ height_in program n class
  unfolding climb
  height_stable zero m class e l = height_none m class (ap (superclass_of program) e ∙ hierarchy.top) ∙ sym (height_none zero class (ap (superclass_of program) e ∙ hierarchy.top))
  height_stable (suc n) zero class e l = absurd (omega arith)
  height_stable (suc n) (suc m) class e l = height_stable_by n m class (superclass_of program class) refl e (λ above h. height_stable n m above h (omega arith))

  height_step : (n class above : ℕ) → superclass_of program class ≡ Some above → climb program n class ≡ o → height_in program n class ≡ suc (height_in program n above)
  unfolding climb height_in on_value
  height_step zero class above e h = absurd (no_above_object class above e h)
  height_step (suc n) class above e h = rw e (ap suc (sym (height_stable n (suc n) above (rw e at h) (omega arith))))

  pub class_height : (class above : ℕ) → superclass_of program class ≡ Some above → height program class ≡ suc (height program above)
  unfolding height
  class_height class above e = height_step N class above e (rises_to_object class above e)

  -- ---- types

  next_rank_object : (dims class : ℕ) (s : DexType) → class ≡ o → above_objects program dims ≡ Some s → dims + depth program class ≡ suc (rank program s)
  unfolding above_objects rank rank_in
  next_rank_object zero class s c e = cc
  next_rank_object (suc dims) class s c e = let f : typed dims (base.Class o) ≡ s = cc in let d = depth_object in rw (c, ← f) (omega arith)

  next_rank_class : (dims class : ℕ) (s : DexType) → next_in program dims (base.Class class) ≡ Some s → dims + depth program class ≡ suc (rank program s)
  unfolding next_in rank rank_in
  next_rank_class dims class s e = elim (test_eq class o) [
    | inl t ↦ let e2 = rw t.0 at e in next_rank_object dims class s t.1 e2
    | inr t ↦ let e2 = rw t.0 at e in let f : typed dims (base.Class (class_above program class)) ≡ s = cc in let d = depth_above class t.1 in rw (← f) (omega arith)
  ]

  next_rank_number : (dims : ℕ) (s : DexType) → Some (typed (fewer dims) (base.Class o)) ≡ Some s → rank_in program dims base.Int ≡ suc (rank program s)
  unfolding fewer rank rank_in
  next_rank_number zero s e = let f : typed zero (base.Class o) ≡ s = cc in let d = depth_object in rw (← f) (omega arith)
  next_rank_number (suc dims) s e = let f : typed dims (base.Class o) ≡ s = cc in let d = depth_object in rw (← f) (omega arith)

  next_rank_in : (dims : ℕ) (b : Base) (s : DexType) → next_in program dims b ≡ Some s → rank_in program dims b ≡ suc (rank program s)
  unfolding next_in rank_in
  next_rank_in dims (base.Class class) s e = next_rank_class dims class s e
  next_rank_in zero base.Boolean s e = next_rank_number zero s e
  next_rank_in (suc dims) base.Boolean s e = next_rank_number (suc dims) s e
  next_rank_in zero base.Byte s e = next_rank_number zero s e
  next_rank_in (suc dims) base.Byte s e = next_rank_number (suc dims) s e
  next_rank_in zero base.Short s e = next_rank_number zero s e
  next_rank_in (suc dims) base.Short s e = next_rank_number (suc dims) s e
  next_rank_in zero base.Char s e = next_rank_number zero s e
  next_rank_in (suc dims) base.Char s e = next_rank_number (suc dims) s e
  next_rank_in zero base.Int s e = next_rank_number zero s e
  next_rank_in (suc dims) base.Int s e = next_rank_number (suc dims) s e
  next_rank_in zero base.Long s e = next_rank_number zero s e
  next_rank_in (suc dims) base.Long s e = next_rank_number (suc dims) s e

  pub next_rank : (t s : DexType) → next_above program t ≡ Some s → rank program t ≡ suc (rank program s)
  unfolding next_above rank
  next_rank t s e = next_rank_in t.dims t.base s e

  next_none_in : (dims : ℕ) (b : Base) → next_in program dims b ≡ None → typed dims b ≡ object_type program
  unfolding next_in above_objects
  next_none_in zero (base.Class class) e = elim (test_eq class o) [
    | inl t ↦ rw t.1 refl
    | inr t ↦ let e2 = rw t.0 at e in cc
  ]
  next_none_in (suc dims) (base.Class class) e = elim (test_eq class o) [
    | inl t ↦ let e2 = rw t.0 at e in cc
    | inr t ↦ let e2 = rw t.0 at e in cc
  ]
  next_none_in dims base.Boolean e = cc
  next_none_in dims base.Byte e = cc
  next_none_in dims base.Short e = cc
  next_none_in dims base.Char e = cc
  next_none_in dims base.Int e = cc
  next_none_in dims base.Long e = cc

  pub next_none : (t : DexType) → next_above program t ≡ None → t ≡ object_type program
  unfolding next_above
  next_none t e = next_none_in t.dims t.base e

  pub rises_rank : {a b : DexType} → Rises program a b → (a ≡ b) ⊎ (rank program b < rank program a)
  rises_rank here = inl refl
  rises_rank (on {type = a} {above = s} e h) =
      let r = next_rank a s e in
      elim (rises_rank h) [ inl f ↦ inr (let g = ap (rank program) f in omega arith) | inr l ↦ inr (omega arith) ]

  pub rises_trans : {a b c : DexType} → Rises program a b → Rises program b c → Rises program a c
  rises_trans here g = g
  rises_trans (on e h) g = on e (rises_trans h g)

  pub rises_anti : {a b : DexType} → Rises program a b → Rises program b a → a ≡ b
  rises_anti h g = elim (rises_rank h) [
    | inl e ↦ e
    | inr l ↦ elim (rises_rank g) [ inl e ↦ sym e | inr m ↦ absurd (omega arith) ]
  ]

  -- a type above another is that one, or above the next
  abbrev pub Ups : DexType → DexType → Type 0
  Ups a d = (a ≡ d) ⊎ ((s : DexType) × (next_above program a ≡ Some s) × Rises program s d)

  pub ups : {a d : DexType} → Rises program a d → Ups a d
  ups here = inl refl
  ups (on {above = s} e h) = inr (s, e, h)

  to_object_by : (n : ℕ) (t : DexType) (s : Option DexType) → next_above program t ≡ s → rank program t ≤ n → ((u : DexType) → next_above program t ≡ Some u → Rises program u (object_type program)) → Rises program t (object_type program)
  to_object_by n t None e l go = subst (λ z. Rises program t z) (next_none t e) here
  to_object_by n t (Some u) e l go = on e (go u e)

  to_object_in : (n : ℕ) (t : DexType) → rank program t ≤ n → Rises program t (object_type program)
  to_object_in zero t l = to_object_by zero t (next_above program t) refl l (λ u e. let r = next_rank t u e in absurd (omega arith))
  to_object_in (suc n) t l = to_object_by (suc n) t (next_above program t) refl l (λ u e. let r = next_rank t u e in to_object_in n u (omega arith))

  pub to_object : (t : DexType) → Rises program t (object_type program)
  to_object t = to_object_in (rank program t) t (omega arith)

  pub object_rank : rank program (object_type program) ≡ 0
  unfolding rank rank_in
  object_rank = let d = depth_object in omega arith

  pub rises_chain : {a b c : DexType} → Rises program a b → Rises program a c → rank program c ≤ rank program b → Rises program b c
  rises_chain here g l = g
  rises_chain {c = c} (on {type = a} {above = s} e h) g l = elim (ups g) [
    | inl f ↦ elim (rises_rank h) [
      | inl k ↦ let r = next_rank a s e in let m = ap (rank program) f in let n = ap (rank program) k in absurd (omega arith)
      | inr k ↦ let r = next_rank a s e in let m = ap (rank program) f in absurd (omega arith)
    ]
    | inr x ↦ rises_chain h (subst (λ z. Rises program z c) (let y = x.1 in let k : x.0 ≡ s = cc in k) x.2) l
  ]
