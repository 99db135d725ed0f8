-- What is known of an object by a type that it is below.
use Rattle.std.proofs.Common.{unwrap_or, ◌≡◌, ◌⊎◌, inl, inr, ℕ, zero, suc, Bool, true, false, cond, List, Option, Some, None, refl, sym, ap, ◌∙◌, subst, slice_get}
use Rattle.std.specs.Prelude.{not, ◌&&◌}
use Rattle.cc_meaning.specs.declared.program.Base.{Base}
use Rattle.cc_meaning.specs.declared.program.Base.TheVariants as base
use Rattle.cc_meaning.specs.declared.program.Class.{Class}
use Rattle.cc_meaning.specs.declared.program.ClassKind.{ClassKind}
use Rattle.cc_meaning.specs.declared.program.ClassKind.TheVariants as origin
use Rattle.cc_meaning.specs.declared.program.DexType.{DexType}
use Rattle.cc_meaning.specs.declared.program.Program.{Program}
use Rattle.cc_meaning.specs.declared.value.Object.{Object}
use Rattle.cc_meaning.specs.declared.value.Object.TheVariants as object
use Rattle.cc_meaning.specs.declared.value.Value.{Value}
use Rattle.cc_meaning.specs.BuiltIn.{object_name, string_name, string_builder_name, print_stream_name, throwable_name}
use Rattle.cc_meaning.specs.Kinds.{kind_of}
use Rattle.cc_meaning.specs.declared.instruction.Kind.TheVariants as kind
use Rattle.cc_meaning_typing.proofs.Tree.{test_eq}
use Rattle.cc_meaning_typing.specs.Hierarchy.{superclass_of, object_class, Inherits, itself, further}
use Rattle.cc_meaning_typing.specs.Types.{is_class, is_reference_in, is_reference, typed, class_type, object_type, array_of, is_loose_kind, is_loose_in, is_loose, held_base, held, IsBelow, same, object as top, classes, elements}
use Rattle.cc_meaning_typing.specs.Code.{is_array_of, is_array, string_type, type_of_kind, type_of_found, type_of_class}
use Rattle.cc_meaning_typing.specs.WellTyped.{is_of_file, is_file_class, is_file_interface}
use Rattle.cc_meaning_typing.proofs.Monotone.{Element, array_parts}
use Rattle.cc_sound_laws.proofs.Made.{made_class, no_text_made}
use Rattle.cc_meaning_exec.specs.Arrays.{array_class}
use Rattle.cc_meaning_exec.specs.Dispatch.{class_of_type}
use Rattle.cc_meaning_fits.specs.Fits.{IsInstanceClass, Heap, ValuesFit, ElementsFit, SortFits, ObjectFits}
use Rattle.cc_meaning_fits.specs.Premises.{IsPlain, object_itself, string, string_builder, print_stream, IsLinked}
use Rattle.cc_meaning_world.specs.Layouts.{shape}
use Rattle.cc_meaning_world.specs.Sorts.{Sort, Out, Instance, Array, Text, Builder, Constant, sort_of, number_of, type_of}

-- ---- classes of the file

pub record IsPlainClass (p : Program) (class : ℕ) : Type 0 where
  pub is_type : type_of_class p class ≡ class_type class
  pub is_held : is_loose p class ≡ false

kind_of_file : (p : Program) (class : ℕ) (k : ClassKind) (b : Bool) (name : List ℕ) → (is_of_file k && not b) ≡ true → (type_of_kind p class k name ≡ class_type class) × (is_loose_kind k b ≡ false)
unfolding type_of_kind is_loose_kind is_of_file
kind_of_file p class origin.File false name e = (refl, refl)
kind_of_file p class origin.File true name e = absurd (cc)
kind_of_file p class origin.BuiltIn b name e = absurd (cc)
kind_of_file p class origin.Outside b name e = absurd (cc)
kind_of_file p class origin.OutsideError b name e = absurd (cc)
kind_of_file p class origin.Array b name e = absurd (cc)

of_file : (p : Program) (class : ℕ) (x : Option Class) → is_file_class x ≡ true → (type_of_found p class x ≡ class_type class) × (is_loose_in x ≡ false)
unfolding is_file_class type_of_found is_loose_in
of_file p class None e = absurd (cc)
of_file p class (Some c) e = kind_of_file p class c.kind c.is_interface c.name e

pub file_class : (p : Program) (class : ℕ) → is_file_class (slice_get p.classes class) ≡ true → IsPlainClass p class
unfolding type_of_class is_loose
file_class p class e = let x = of_file p class (slice_get p.classes class) e in record { is_type = x.0; is_held = x.1 }

-- a class of the file is held as itself
pub file_class_held : (p : Program) (class : ℕ) → is_file_class (slice_get p.classes class) ≡ true → held p (type_of_class p class) ≡ class_type class
unfolding held held_base
file_class_held p class e = let x = file_class p class e in ap (held p) x.is_type ∙ ap (λ b. class_type (cond b (object_class p) class)) x.is_held

-- ---- below a class

below_class_in : (p : Program) {t a : DexType} → IsBelow p t a → (class : ℕ) → a ≡ class_type class → (class ≡ object_class p) ⊎ ((x : ℕ) × (t ≡ class_type x) × Inherits p x class)
below_class_in p same class e = inr (class, e, itself)
below_class_in p (top {above = above} f) class e = inl (let q : class_type class ≡ object_type p = sym e ∙ f in let b : base.Class class ≡ base.Class (object_class p) = ap (λ (z : DexType). z.base) q in cc)
below_class_in p (classes {class = x} {above = above} h l) class e = inr (x, refl, let b : base.Class above ≡ base.Class class = ap (λ (z : DexType). z.base) e in let q : above ≡ class = cc in subst (Inherits p x) q h)
below_class_in p (elements r1 r2 h) class e = absurd (let d = ap (λ (z : DexType). z.dims) e in cc)

below_class : (p : Program) (t : DexType) (class : ℕ) → IsBelow p t (class_type class) → (class ≡ object_class p) ⊎ ((x : ℕ) × (t ≡ class_type x) × Inherits p x class)
below_class p t class b = below_class_in p b class refl

class_same : (a b : ℕ) → class_type a ≡ class_type b → a ≡ b
class_same a b e = let q : base.Class a ≡ base.Class b = ap (λ (z : DexType). z.base) e in cc

number_object : (p : Program) → number_of p object_name ≡ object_class p
unfolding number_of object_class
number_object p = refl

-- ---- objects with fields

pub record IsMade (p : Program) (h : Heap) (class : ℕ) (o : Object) : Type 0 where
  pub values : List Value
  pub is : o ≡ object.Instance class values
  pub fit : ValuesFit p h (shape p class) values

pub made_of : (p : Program) (h : Heap) (o : Object) (class fields : ℕ) → sort_of o ≡ Instance class fields → ObjectFits p h o → IsMade p h class o
unfolding sort_of
made_of p h (object.Instance c values) class fields e f = let q : c ≡ class = cc in record { values = values; is = ap (λ z. object.Instance z values) q; fit = subst (λ z. ValuesFit p h (shape p z) values) q f.1 }
made_of p h object.Out class fields e f = absurd (cc)
made_of p h (object.Array c values) class fields e f = absurd (cc)
made_of p h (object.Text units) class fields e f = absurd (cc)
made_of p h (object.Builder units) class fields e f = absurd (cc)
made_of p h (object.Constant c) class fields e f = absurd (cc)

array_is : (element : DexType) → is_array (array_of element) ≡ true
unfolding is_array is_array_of
array_is element = refl

-- ---- below an array

kind_reference : (dims : ℕ) (b : Base) → is_reference_in dims b ≡ true → kind_of (typed dims b) ≡ kind.Object
unfolding is_reference_in is_class
kind_reference zero (base.Class class) e = refl
kind_reference zero base.Boolean e = cc
kind_reference zero base.Byte e = cc
kind_reference zero base.Short e = cc
kind_reference zero base.Char e = cc
kind_reference zero base.Int e = cc
kind_reference zero base.Long e = cc
kind_reference (suc dims) b e = elim (test_eq (suc dims) 0) [ inl t ↦ absurd (let f = t.1 in cc) | inr t ↦ rw t.0 refl ]

-- what is below an array of a type is one of a type that is below it
below_array : (p : Program) {s t : DexType} → IsBelow p s t → (v : DexType) → t ≡ array_of v → Element p s v
unfolding is_reference
below_array p same v e = record { w = v; is = e; below = same; alike = refl }
below_array p (top f) v e = absurd (let q = ap (λ (z : DexType). z.dims) (sym f ∙ e) in cc)
below_array p (classes h l) v e = absurd (let q = ap (λ (z : DexType). z.dims) e in cc)
below_array p (elements {type = x} {above = y} r1 r2 h) v e =
    let f = array_parts p y v e in
    record {
      w = x;
      is = refl;
      below = subst (λ z. IsBelow p x z) f h;
      alike = kind_reference x.dims x.base r1 ∙ sym (kind_reference v.dims v.base (subst (λ z. is_reference z ≡ true) f r2));
    }

module _ (p : Program) (linked : IsLinked p) where
  object_no_file : is_file_class (slice_get p.classes (object_class p)) ≡ true → ⊥
  object_no_file e = let f = linked.above_plain object_name (object_class p) object_itself (subst (λ z. Inherits p z (object_class p)) (sym (number_object p)) itself) in cc

  no_file_above : (class : ℕ) → Inherits p (object_class p) class → is_file_class (slice_get p.classes class) ≡ true → ⊥
  no_file_above class h e = let f = linked.above_plain object_name class object_itself (subst (λ z. Inherits p z class) (sym (number_object p)) h) in cc

  -- what is below a class of the file, as it is held, is a class that has it above
  held_below : (class above : ℕ) → is_file_class (slice_get p.classes above) ≡ true → IsBelow p (held p (class_type class)) (class_type above) → Inherits p class above
  unfolding held held_base
  held_below class above e b = by (is_loose p class) b
    where
      by : (l : Bool) → IsBelow p (class_type (cond l (object_class p) class)) (class_type above) → Inherits p class above
      by true b = elim (below_class p _ above b) [
        | inl q ↦ absurd (object_no_file (subst (λ z. is_file_class (slice_get p.classes z) ≡ true) q e))
        | inr x ↦ absurd (no_file_above above (subst (λ z. Inherits p z above) (sym (class_same _ _ x.1)) x.2) e)
      ]
      by false b = elim (below_class p _ above b) [
        | inl q ↦ absurd (object_no_file (subst (λ z. is_file_class (slice_get p.classes z) ≡ true) q e))
        | inr x ↦ subst (λ z. Inherits p z above) (sym (class_same _ _ x.1)) x.2
      ]

  no_plain : (name : List ℕ) (above : ℕ) → IsPlain name → is_file_class (slice_get p.classes above) ≡ true → IsBelow p (held p (class_type (number_of p name))) (class_type above) → ⊥
  no_plain name above i e b = let f = linked.above_plain name above i (held_below (number_of p name) above e b) in cc

  no_array : (t : DexType) (above : ℕ) (n : ℕ) → t.dims ≡ suc n → is_file_class (slice_get p.classes above) ≡ true → IsBelow p t (class_type above) → ⊥
  no_array t above n d e b = elim (below_class p t above b) [
    | inl q ↦ object_no_file (subst (λ z. is_file_class (slice_get p.classes z) ≡ true) q e)
    | inr x ↦ let q : t.dims ≡ 0 = ap (λ (z : DexType). z.dims) x.1 in cc
  ]

  pub record IsInstance (sort : Sort) (above : ℕ) : Type 0 where
    pub class : ℕ
    pub fields : ℕ
    pub is : sort ≡ Instance class fields
    pub made : IsInstanceClass p class
    pub inherits : Inherits p class above

  -- an object whose type is below a class of the file is an instance of a class that has it above
  pub file_sort : (sort : Sort) (above : ℕ) → SortFits p sort → is_file_class (slice_get p.classes above) ≡ true → IsBelow p (held p (type_of p sort)) (class_type above) → IsInstance sort above
  unfolding type_of string_type number_of held
  file_sort Out above f e b = absurd (no_plain print_stream_name above print_stream e b)
  file_sort (Instance class fields) above f e b = record { class = class; fields = fields; is = refl; made = f; inherits = held_below class above e b }
  file_sort (Array class n) above f e b = absurd (no_array _ above f.0.dims (ap (λ (z : DexType). z.dims) f.1) e b)
  file_sort (Text units) above f e b = absurd (no_plain string_name above string e b)
  file_sort Builder above f e b = absurd (no_plain string_builder_name above string_builder e b)
  file_sort (Constant made) above f e b = absurd (no_plain object_name above object_itself e (subst (λ z. IsBelow p (held p (class_type z)) (class_type above)) (sym (number_object p)) b))

  -- ---- arrays

  no_dims : (t type : DexType) → t.dims ≡ 0 → IsBelow p t (array_of type) → ⊥
  no_dims t type d b = let x = below_array p b type refl in let q = ap (λ (z : DexType). z.dims) x.is in cc

  kind_held : (n : ℕ) (b : Base) → kind_of (typed n (held_base p b)) ≡ kind_of (typed n b)
  unfolding held_base
  kind_held n (base.Class class) = refl
  kind_held n base.Boolean = refl
  kind_held n base.Byte = refl
  kind_held n base.Short = refl
  kind_held n base.Char = refl
  kind_held n base.Int = refl
  kind_held n base.Long = refl

  pub record IsArray (h : Heap) (o : Object) (type : DexType) : Type 0 where
    pub class : ℕ
    pub values : List Value
    pub is : o ≡ object.Array class values
    pub element : DexType
    pub named : type_of_class p class ≡ array_of element
    pub fit : ElementsFit p h element values
    pub below : IsBelow p (held p element) type
    pub alike : kind_of element ≡ kind_of type

  -- an object whose type is below an array's is an array, and its elements fit a type that is below the other's elements
  pub array_known : (h : Heap) (o : Object) (type : DexType) → ObjectFits p h o → IsBelow p (held p (type_of p (sort_of o))) (array_of type) → IsArray h o type
  unfolding sort_of type_of string_type held
  array_known h object.Out type f b = absurd (no_dims _ type refl b)
  array_known h (object.Instance class values) type f b = absurd (no_dims _ type refl b)
  array_known h (object.Array class values) type f b =
      let b2 : IsBelow p (held p (array_of f.0)) (array_of type) = subst (λ z. IsBelow p (held p z) (array_of type)) f.1 b in
      let x = below_array p b2 type refl in
      let q : held p f.0 ≡ x.w = array_parts p (held p f.0) x.w x.is in
      record {
        class = class;
        values = values;
        is = refl;
        element = f.0;
        named = f.1;
        fit = f.2;
        below = subst (λ z. IsBelow p z type) (sym q) x.below;
        alike = sym (kind_held f.0.dims f.0.base) ∙ ap kind_of q ∙ x.alike;
      }
  array_known h (object.Text units) type f b = absurd (no_dims _ type refl b)
  array_known h (object.Builder units) type f b = absurd (no_dims _ type refl b)
  array_known h (object.Constant class) type f b = absurd (no_dims _ type refl b)

  -- ---- classes above a class

  object_inherits : {class above : ℕ} → Inherits p class above → class ≡ object_class p → above ≡ object_class p
  object_inherits itself e = e
  object_inherits (further {above = next} s h) e = absurd (let t = linked.hierarchy.top in let q = ap (superclass_of p) e in cc)

  pub object_held : (t : DexType) → IsBelow p t (held p (class_type (object_class p)))
  unfolding held held_base
  object_held t = by (is_loose p (object_class p))
    where
      by : (l : Bool) → IsBelow p t (class_type (cond l (object_class p) (object_class p)))
      by true = top refl
      by false = top refl

  pub object_above : (t : DexType) (above : ℕ) → above ≡ object_class p → IsBelow p t (held p (class_type above))
  object_above t above e = subst (λ z. IsBelow p t (held p (class_type z))) (sym e) (object_held t)

  loose_inherits : {class above : ℕ} → Inherits p class above → is_loose p class ≡ true → is_file_interface (slice_get p.classes class) ≡ false → (class ≡ above) ⊎ (above ≡ object_class p)
  loose_inherits itself l f = inl refl
  loose_inherits (further {class = class} {above = next} s h) l f = inr (object_inherits h (linked.loose class next l f s))

  pub held_plain : (class : ℕ) → is_loose p class ≡ false → held p (class_type class) ≡ class_type class
  unfolding held held_base
  held_plain class l = ap (λ b. class_type (cond b (object_class p) class)) l

  held_loose : (class : ℕ) → is_loose p class ≡ true → held p (class_type class) ≡ object_type p
  unfolding held held_base
  held_loose class l = ap (λ b. class_type (cond b (object_class p) class)) l

  -- a class that has another above is below it, as both are held, if it is no interface
  pub class_up : (class above : ℕ) → is_file_interface (slice_get p.classes class) ≡ false → Inherits p class above → IsBelow p (held p (class_type class)) (held p (class_type above))
  class_up class above f h = by (is_loose p class) refl (is_loose p above) refl
    where
      plain_up : is_loose p class ≡ false → is_loose p above ≡ false → IsBelow p (held p (class_type class)) (held p (class_type above))
      plain_up l m = subst (λ z. IsBelow p z (held p (class_type above))) (sym (held_plain class l)) (subst (λ z. IsBelow p (class_type class) z) (sym (held_plain above m)) (classes h m))

      loose_up : is_loose p above ≡ true → IsBelow p (held p (class_type class)) (held p (class_type above))
      loose_up m = subst (λ z. IsBelow p (held p (class_type class)) z) (sym (held_loose above m)) (top refl)

      by : (l : Bool) → is_loose p class ≡ l → (m : Bool) → is_loose p above ≡ m → IsBelow p (held p (class_type class)) (held p (class_type above))
      by true l m e = elim (loose_inherits h l f) [
        | inl q ↦ subst (λ z. IsBelow p (held p (class_type class)) (held p (class_type z))) q same
        | inr q ↦ subst (λ z. IsBelow p (held p (class_type class)) (held p (class_type z))) (sym q) (object_held (held p (class_type class)))
      ]
      by false l true e = loose_up e
      by false l false e = plain_up l e

  -- what is above a class that is no array is none
  pub inherits_type : {class above : ℕ} → Inherits p class above → type_of_class p class ≡ class_type class → type_of_class p above ≡ class_type above
  inherits_type itself e = e
  inherits_type (further {class = class} {above = next} s h) e = inherits_type h (linked.above_type class next s)

  -- a class that has another above is below it, also where that is known by its own type
  pub class_up_type : (class above : ℕ) → is_file_interface (slice_get p.classes class) ≡ false → type_of_class p class ≡ class_type class → Inherits p class above → IsBelow p (held p (class_type class)) (held p (type_of_class p above))
  class_up_type class above f t h = subst (λ z. IsBelow p (held p (class_type class)) (held p z)) (sym (inherits_type h t)) (class_up class above f h)

  object_type_is : type_of_class p (object_class p) ≡ class_type (object_class p)
  object_type_is = subst (λ z. type_of_class p z ≡ class_type z) (number_object p) (linked.plain_type object_name object_itself)

  below_object_class : (t : DexType) (above : ℕ) → Inherits p (object_class p) above → IsBelow p t (held p (type_of_class p above))
  below_object_class t above h = subst (λ z. IsBelow p t (held p z)) (sym (ap (type_of_class p) (object_inherits h refl) ∙ object_type_is)) (object_held t)

  array_up : (element : DexType) (array : ℕ) (x : Option ℕ) (above : ℕ) → type_of_class p array ≡ array_of element → array_class p (array_of element) ≡ x → Inherits p (unwrap_or x (object_class p)) above → IsBelow p (held p (array_of element)) (held p (type_of_class p above))
  array_up element array None above t e h = below_object_class (held p (array_of element)) above h
  array_up element array (Some class) above t e h = by h refl
    where
      is : (type_of_class p class ≡ type_of_class p array) × (superclass_of p class ≡ Some (object_class p))
      is = linked.array_classes array class (ap is_array t ∙ array_is element) (ap (array_class p) t ∙ e)

      by : {c : ℕ} → Inherits p c above → c ≡ class → IsBelow p (held p (array_of element)) (held p (type_of_class p above))
      by itself q = subst (λ z. IsBelow p (held p (array_of element)) (held p z)) (sym (ap (type_of_class p) q ∙ (is.0 ∙ t))) same
      by (further {above = next} s g) q =
          let o = is.1 in
          let n : next ≡ object_class p = let z = subst (λ z. superclass_of p z ≡ Some next) q s in cc in
          below_object_class (held p (array_of element)) above (subst (λ z. Inherits p z above) n g)

  -- so is an object's type, from where calls of its methods are searched
  pub sort_up : (sort : Sort) (above : ℕ) → SortFits p sort → Inherits p (class_of_type p (type_of p sort).dims (type_of p sort).base) above → IsBelow p (held p (type_of p sort)) (held p (type_of_class p above))
  unfolding type_of string_type number_of class_of_type
  sort_up Out above f h = class_up_type _ above (linked.plain print_stream_name print_stream) (linked.plain_type print_stream_name print_stream) h
  sort_up (Instance class fields) above f h = class_up_type class above (made_class (slice_get p.classes class) f.made) f.no_array h
  sort_up (Array class n) above f h = subst (λ z. IsBelow p (held p z) (held p (type_of_class p above))) (sym f.1) (array_up f.0 class (array_class p (array_of f.0)) above f.1 refl (subst (λ (z : DexType). Inherits p (class_of_type p z.dims z.base) above) f.1 h))
  sort_up (Text units) above f h = class_up_type _ above (linked.plain string_name string) (linked.plain_type string_name string) h
  sort_up Builder above f h = class_up_type _ above (linked.plain string_builder_name string_builder) (linked.plain_type string_builder_name string_builder) h
  sort_up (Constant made) above f h = class_up_type _ above (subst (λ z. is_file_interface (slice_get p.classes z) ≡ false) (number_object p) (linked.plain object_name object_itself)) object_type_is h

  -- the class of an object is no interface
  pub sort_no_interface : (sort : Sort) (class : ℕ) → SortFits p sort → type_of p sort ≡ class_type class → is_file_interface (slice_get p.classes class) ≡ false
  unfolding type_of string_type number_of
  sort_no_interface Out class f e = subst (λ z. is_file_interface (slice_get p.classes z) ≡ false) (class_same _ _ e) (linked.plain print_stream_name print_stream)
  sort_no_interface (Instance c n) class f e = subst (λ z. is_file_interface (slice_get p.classes z) ≡ false) (class_same _ _ e) (made_class (slice_get p.classes c) f.made)
  sort_no_interface (Array c n) class f e = absurd (let d : suc f.0.dims ≡ 0 = ap (λ (z : DexType). z.dims) (sym f.1 ∙ e) in cc)
  sort_no_interface (Text units) class f e = subst (λ z. is_file_interface (slice_get p.classes z) ≡ false) (class_same _ _ e) (linked.plain string_name string)
  sort_no_interface Builder class f e = subst (λ z. is_file_interface (slice_get p.classes z) ≡ false) (class_same _ _ e) (linked.plain string_builder_name string_builder)
  sort_no_interface (Constant made) class f e = subst (λ z. is_file_interface (slice_get p.classes z) ≡ false) (number_object p ∙ class_same _ _ e) (linked.plain object_name object_itself)

  -- ---- texts, builders and throwables

  -- a class that is below another that none is below, as it is held, is that class
  only_class : (class above : ℕ) → (above ≡ object_class p → ⊥) → ((x : ℕ) → Inherits p x above → x ≡ above) → IsBelow p (held p (class_type class)) (class_type above) → class ≡ above
  unfolding held held_base
  only_class class above o closed b = by (is_loose p class) b
    where
      by : (l : Bool) → IsBelow p (class_type (cond l (object_class p) class)) (class_type above) → class ≡ above
      by true b = elim (below_class p _ above b) [
        | inl q ↦ absurd (o q)
        | inr x ↦ absurd (o (object_inherits (subst (λ z. Inherits p z above) (sym (class_same _ _ x.1)) x.2) refl))
      ]
      by false b = elim (below_class p _ above b) [
        | inl q ↦ absurd (o q)
        | inr x ↦ class_same _ _ x.1 ∙ closed x.0 x.2
      ]

  no_array_below : (t : DexType) (above n : ℕ) → t.dims ≡ suc n → (above ≡ object_class p → ⊥) → IsBelow p t (class_type above) → ⊥
  no_array_below t above n d o b = elim (below_class p t above b) [
    | inl q ↦ o q
    | inr x ↦ let q : t.dims ≡ 0 = ap (λ (z : DexType). z.dims) x.1 in cc
  ]

  -- what is below String is a text
  pub text_sort : (sort : Sort) → SortFits p sort → IsBelow p (held p (type_of p sort)) (class_type (number_of p string_name)) → (units : List ℕ) × (sort ≡ Text units)
  unfolding type_of string_type number_of held
  text_sort (Text units) f b = (units, refl)
  text_sort (Instance class n) f b = absurd (no_text_made p linked class f.made (only_class class _ linked.text_object linked.text_closed b))
  text_sort (Array class n) f b = absurd (no_array_below _ _ f.0.dims (ap (λ (z : DexType). z.dims) f.1) linked.text_object b)
  text_sort Out f b = absurd (linked.text_stream (sym (only_class _ _ linked.text_object linked.text_closed b)))
  text_sort Builder f b = absurd (linked.text_builder (sym (only_class _ _ linked.text_object linked.text_closed b)))
  text_sort (Constant made) f b = absurd (linked.text_object (sym (only_class _ _ linked.text_object linked.text_closed b)))

  -- what is below StringBuilder is a builder
  pub builder_sort : (sort : Sort) → SortFits p sort → IsBelow p (held p (type_of p sort)) (class_type (number_of p string_builder_name)) → sort ≡ Builder
  unfolding type_of string_type number_of held
  builder_sort Builder f b = refl
  builder_sort (Instance class n) f b = absurd (f.no_builder (only_class class _ linked.builder_object linked.builder_closed b))
  builder_sort (Array class n) f b = absurd (no_array_below _ _ f.0.dims (ap (λ (z : DexType). z.dims) f.1) linked.builder_object b)
  builder_sort Out f b = absurd (linked.builder_stream (sym (only_class _ _ linked.builder_object linked.builder_closed b)))
  builder_sort (Text units) f b = absurd (linked.text_builder (only_class _ _ linked.builder_object linked.builder_closed b))
  builder_sort (Constant made) f b = absurd (linked.builder_object (sym (only_class _ _ linked.builder_object linked.builder_closed b)))

  throwable_above : (class : ℕ) → IsBelow p (held p (class_type class)) (class_type (number_of p throwable_name)) → Inherits p class (number_of p throwable_name)
  unfolding held held_base
  throwable_above class b = by (is_loose p class) b
    where
      by : (l : Bool) → IsBelow p (class_type (cond l (object_class p) class)) (class_type (number_of p throwable_name)) → Inherits p class (number_of p throwable_name)
      by true b = elim (below_class p _ _ b) [
        | inl q ↦ absurd (linked.throwable_object q)
        | inr x ↦ absurd (linked.throwable_object (object_inherits (subst (λ z. Inherits p z (number_of p throwable_name)) (sym (class_same _ _ x.1)) x.2) refl))
      ]
      by false b = elim (below_class p _ _ b) [
        | inl q ↦ absurd (linked.throwable_object q)
        | inr x ↦ subst (λ z. Inherits p z (number_of p throwable_name)) (sym (class_same _ _ x.1)) x.2
      ]

  -- what is below Throwable is an instance with a message
  pub throwable_sort : (sort : Sort) → SortFits p sort → IsBelow p (held p (type_of p sort)) (class_type (number_of p throwable_name)) → IsInstance sort (number_of p throwable_name)
  unfolding type_of string_type number_of held
  throwable_sort (Instance class n) f b = record { class = class; fields = n; is = refl; made = f; inherits = throwable_above class b }
  throwable_sort (Array class n) f b = absurd (no_array_below _ _ f.0.dims (ap (λ (z : DexType). z.dims) f.1) linked.throwable_object b)
  throwable_sort Out f b = absurd (linked.throwable_plain print_stream_name print_stream (throwable_above _ b))
  throwable_sort (Text units) f b = absurd (linked.throwable_plain string_name string (throwable_above _ b))
  throwable_sort Builder f b = absurd (linked.throwable_plain string_builder_name string_builder (throwable_above _ b))
  throwable_sort (Constant made) f b = absurd (linked.throwable_plain object_name object_itself (subst (λ z. Inherits p z (number_of p throwable_name)) (sym (number_object p)) (throwable_above _ b)))
