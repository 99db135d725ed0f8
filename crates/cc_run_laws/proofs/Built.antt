-- The built-in classes of a complete program: each is there, held as itself, and its superclasses are those of the table.
use Rattle.std.proofs.Common.{unwrap_or, ◌≡◌, ◌≢◌, ◌⊎◌, inl, inr, ℕ, Bool, true, false, ◌&&◌, not, List, Option, Some, None, refl, sym, ap, ◌∙◌, subst, slice_get}
use Rattle.std.specs.Prelude.{option_and_then}
use Rattle.std.specs.Str.{bytes_eq}
use Rattle.cc_meaning.specs.declared.program.Class.{Class}
use Rattle.cc_meaning.specs.declared.program.ClassKind.{ClassKind}
use Rattle.cc_meaning.specs.declared.program.ClassKind.TheVariants as origin
use Rattle.cc_meaning.specs.declared.program.Program.{Program}
use Rattle.cc_meaning.specs.BuiltIn.{built_in_superclass, is_built_in, object_name, string_name, string_builder_name, print_stream_name, throwable_name, exception_name, error_name}
use Rattle.cc_meaning.specs.Lookup.{class_named}
use Rattle.cc_meaning_typing.specs.Complete.{IsComplete, IsOpen}
use Rattle.cc_meaning_typing.specs.Hierarchy.{superclass_in, superclass_of, object_class, Inherits, itself, further}
use Rattle.cc_meaning_typing.specs.Types.{is_loose_kind, is_loose_in, is_loose, class_type}
use Rattle.cc_meaning_typing.specs.Code.{type_of_kind, type_of_found, type_of_class}
use Rattle.cc_meaning_typing.specs.WellTyped.{is_of_file, is_file_class, is_file_interface}
use Rattle.cc_meaning_fits.specs.Premises.{IsPlain, object_itself, string, string_builder, print_stream}
use Rattle.cc_meaning_world.specs.Sorts.{number_of}
use Rattle.cc_program_laws.proofs.Lists.{same_bytes, bytes_same, some_same, position_is}
use Rattle.cc_program_laws.proofs.Names.{object_in, throwable_in, exception_in, error_in}
use Rattle.cc_run_laws.proofs.BuiltNames.{above_built_in, above_is_open, string_in, builder_in, stream_in, string_above, builder_above, stream_above}

-- ---- what a class is by its kind

pub plain_type : (p : Program) (n : ℕ) (c : Class) → slice_get p.classes n ≡ Some c → c.kind ≢ origin.Array → type_of_class p n ≡ class_type n
unfolding type_of_class type_of_found type_of_kind
plain_type p n c e other = ap (type_of_found p n) e ∙ by c.kind refl
  where
    by : (k : ClassKind) → c.kind ≡ k → type_of_kind p n k c.name ≡ class_type n
    by origin.File q = refl
    by origin.BuiltIn q = refl
    by origin.Outside q = refl
    by origin.OutsideError q = refl
    by origin.Array q = absurd (other q)

-- a built-in class of a program
pub record IsBuilt (p : Program) (name : List ℕ) : Type 0 where
  pub class : Class
  pub named : class_named name p ≡ Some (number_of p name)
  pub there : slice_get p.classes (number_of p name) ≡ Some class
  pub called : class.name ≡ name
  pub kind : class.kind ≡ origin.BuiltIn
  pub held : is_loose p (number_of p name) ≡ false
  pub no_interface : is_file_interface (slice_get p.classes (number_of p name)) ≡ false
  pub no_file_class : is_file_class (slice_get p.classes (number_of p name)) ≡ false
  pub is_type : type_of_class p (number_of p name) ≡ class_type (number_of p name)

pub number_object : (p : Program) → object_class p ≡ number_of p object_name
unfolding object_class number_of
number_object p = refl

after_some : {A B : Type 0} (f : A → Option B) (o : Option A) (y : B) → option_and_then f o ≡ Some y → (x : A) × (o ≡ Some x) × (f x ≡ Some y)
after_some f None y e = absurd cc
after_some f (Some x) y e = (x, refl, e)

module _ (p : Program) (whole : IsComplete p) where
  pub built : (name : List ℕ) → is_built_in name ≡ true → IsBuilt p name
  unfolding number_of is_loose is_loose_in is_loose_kind is_file_interface is_file_class is_of_file
  built name b =
      let h = whole.built_in name b in
      let n : number_of p name ≡ h.0 = ap (λ o. unwrap_or o 0) h.2 in
      let at : slice_get p.classes (number_of p name) ≡ Some h.1 = ap (slice_get p.classes) n ∙ h.3 in
      record {
        class = h.1;
        named = h.2 ∙ ap Some (sym n);
        there = at;
        called = h.4;
        kind = h.5;
        held = ap is_loose_in at ∙ ap (λ k. is_loose_kind k h.1.is_interface) h.5;
        no_interface = ap is_file_interface at ∙ ap (λ k. is_of_file k && h.1.is_interface) h.5;
        no_file_class = ap is_file_class at ∙ ap (λ k. is_of_file k && not h.1.is_interface) h.5;
        is_type = plain_type p (number_of p name) h.1 at (λ q. let k = h.5 in cc);
      }

  -- different names, different classes
  pub differ : (a b : List ℕ) → is_built_in a ≡ true → is_built_in b ≡ true → bytes_eq a b ≡ false → number_of p a ≡ number_of p b → ⊥
  differ a b x y d e =
      let one = built a x in
      let other = built b y in
      let s : one.class ≡ other.class = some_same one.class other.class (sym one.there ∙ (ap (slice_get p.classes) e ∙ other.there)) in
      let n : a ≡ b = sym one.called ∙ (ap (λ (c : Class). c.name) s ∙ other.called) in
      let t : bytes_eq a b ≡ true = ap (bytes_eq a) (sym n) ∙ bytes_same a in
      cc

  -- the superclass of a built-in class is that of the table
  pub above : (name up : List ℕ) → is_built_in name ≡ true → built_in_superclass name ≡ Some up → superclass_of p (number_of p name) ≡ Some (number_of p up)
  unfolding superclass_of superclass_in
  above name up b e =
      let one = built name b in
      let other = built up (above_built_in name up e) in
      ap superclass_in one.there
      ∙ ((whole.classes (number_of p name) one.class one.there).below.built_in one.kind
      ∙ (ap (λ n. option_and_then (λ m. class_named m p) (built_in_superclass n)) one.called
      ∙ (ap (option_and_then (λ m. class_named m p)) e ∙ other.named)))

  pub up : (name next : List ℕ) {top : ℕ} → is_built_in name ≡ true → built_in_superclass name ≡ Some next → Inherits p (number_of p next) top → Inherits p (number_of p name) top
  up name next b e h = further (above name next b e) h

  -- ---- above Object, and above the plain classes

  pub only_object : {class top : ℕ} → Inherits p class top → class ≡ object_class p → top ≡ object_class p
  only_object itself e = e
  only_object (further s h) e = absurd (let t = whole.well_formed.hierarchy.top in let q = ap (superclass_of p) e in cc)

  one_above : {class top : ℕ} → Inherits p class top → superclass_of p class ≡ Some (object_class p) → (top ≡ class) ⊎ (top ≡ object_class p)
  one_above itself e = inl refl
  one_above (further {above = next} s h) e = inr (only_object h (some_same next (object_class p) (sym s ∙ e)))

  plain_one : (name : List ℕ) {top : ℕ} → is_built_in name ≡ true → built_in_superclass name ≡ Some object_name → Inherits p (number_of p name) top → (top ≡ number_of p name) ⊎ (top ≡ object_class p)
  plain_one name b e h = one_above h (above name object_name b e ∙ ap Some (sym (number_object p)))

  pub plain_in : (name : List ℕ) → IsPlain name → is_built_in name ≡ true
  plain_in _ object_itself = object_in
  plain_in _ string = string_in
  plain_in _ string_builder = builder_in
  plain_in _ print_stream = stream_in

  -- ---- no class is below String and StringBuilder

  -- the class that a name names is of that name
  pub called_so : (name : List ℕ) (number : ℕ) → class_named name p ≡ Some number → (class : Class) × (slice_get p.classes number ≡ Some class) × (class.name ≡ name)
  called_so name number e = let f = position_is (λ (class : Class). bytes_eq class.name name) p.classes number e in (f.0, f.1, same_bytes f.0.name name f.2)

  -- a class that no class is below
  pub record Closed (name : List ℕ) : Type 0 where
    pub built_in : is_built_in name ≡ true
    pub never : (class : Class) → IsOpen class → class.name ≢ name
    pub above : (other top : List ℕ) → built_in_superclass other ≡ Some top → bytes_eq top name ≡ false
    pub object : bytes_eq object_name name ≡ false
    pub exception : bytes_eq exception_name name ≡ false
    pub error : bytes_eq error_name name ≡ false

  string_is_closed : Closed string_name
  unfolding object_name string_name exception_name error_name
  string_is_closed = record { built_in = string_in; never = λ class is. is.no_text; above = λ other top e. (above_is_open other top e).0; object = refl; exception = refl; error = refl }

  builder_is_closed : Closed string_builder_name
  unfolding object_name string_builder_name exception_name error_name
  builder_is_closed = record { built_in = builder_in; never = λ class is. is.no_builder; above = λ other top e. (above_is_open other top e).1; object = refl; exception = refl; error = refl }

  module _ (name : List ℕ) (closed : Closed name) where
    named_apart : (other : List ℕ) → is_built_in other ≡ true → bytes_eq other name ≡ false → class_named other p ≡ Some (number_of p name) → ⊥
    named_apart other b d e = differ other name b closed.built_in d (some_same _ _ (sym (built other b).named ∙ e))

    by_kind : (n : ℕ) (c : Class) (k : ClassKind) → slice_get p.classes n ≡ Some c → c.kind ≡ k → c.superclass ≡ Some (number_of p name) → ⊥
    by_kind n c origin.File there q e =
        let x = (whole.classes n c there).below.of_file q in
        let same : x.0 ≡ number_of p name = some_same _ _ (sym x.2 ∙ e) in
        let one = built name closed.built_in in
        let parent : x.1 ≡ one.class = some_same x.1 one.class (sym x.3 ∙ (ap (slice_get p.classes) same ∙ one.there)) in
        closed.never x.1 x.4 (ap (λ (z : Class). z.name) parent ∙ one.called)
    by_kind n c origin.BuiltIn there q e =
        let s = after_some (λ m. class_named m p) (built_in_superclass c.name) (number_of p name) (sym ((whole.classes n c there).below.built_in q) ∙ e) in
        named_apart s.0 (above_built_in c.name s.0 s.1) (closed.above c.name s.0 s.1) s.2
    by_kind n c origin.Outside there q e = named_apart object_name object_in closed.object (sym ((whole.classes n c there).below.outside q) ∙ e)
    by_kind n c origin.OutsideError there q e = elim ((whole.classes n c there).below.outside_error q) [
      | inl x ↦ named_apart exception_name exception_in closed.exception (sym x ∙ e)
      | inr x ↦ named_apart error_name error_in closed.error (sym x ∙ e)
    ]
    by_kind n c origin.Array there q e = named_apart object_name object_in closed.object (sym ((whole.classes n c there).below.array q) ∙ e)

    none_below : (n : ℕ) → superclass_of p n ≡ Some (number_of p name) → ⊥
    unfolding superclass_of superclass_in
    none_below n e = by (slice_get p.classes n) refl e
      where
        by : (o : Option Class) → slice_get p.classes n ≡ o → superclass_in o ≡ Some (number_of p name) → ⊥
        by None there e = cc
        by (Some c) there e = by_kind n c c.kind there refl e

    only_itself : {class top : ℕ} → Inherits p class top → top ≡ number_of p name → class ≡ number_of p name
    only_itself itself e = e
    only_itself (further {class = class} s h) e = absurd (none_below class (s ∙ ap Some (only_itself h e)))

  pub text_closed : (class : ℕ) → Inherits p class (number_of p string_name) → class ≡ number_of p string_name
  text_closed class h = only_itself string_name string_is_closed h refl

  pub builder_closed : (class : ℕ) → Inherits p class (number_of p string_builder_name) → class ≡ number_of p string_builder_name
  builder_closed class h = only_itself string_builder_name builder_is_closed h refl

  -- ---- the plain classes

  by_two : (name : List ℕ) {top : ℕ} → is_built_in name ≡ true → (top ≡ number_of p name) ⊎ (top ≡ object_class p) → is_file_class (slice_get p.classes top) ≡ false
  by_two name b (inl e) = subst (λ z. is_file_class (slice_get p.classes z) ≡ false) (sym e) (built name b).no_file_class
  by_two name b (inr e) = subst (λ z. is_file_class (slice_get p.classes z) ≡ false) (sym (e ∙ number_object p)) (built object_name object_in).no_file_class

  pub above_plain : (name : List ℕ) (class : ℕ) → IsPlain name → Inherits p (number_of p name) class → is_file_class (slice_get p.classes class) ≡ false
  above_plain _ class object_itself h = by_two object_name object_in (inr (only_object h (sym (number_object p))))
  above_plain _ class string h = by_two string_name string_in (plain_one string_name string_in string_above h)
  above_plain _ class string_builder h = by_two string_builder_name builder_in (plain_one string_builder_name builder_in builder_above h)
  above_plain _ class print_stream h = by_two print_stream_name stream_in (plain_one print_stream_name stream_in stream_above h)

  apart : (name : List ℕ) {top : ℕ} → is_built_in name ≡ true → bytes_eq throwable_name name ≡ false → (top ≡ number_of p name) ⊎ (top ≡ object_class p) → top ≡ number_of p throwable_name → ⊥
  unfolding object_name throwable_name
  apart name b d (inl e) t = differ throwable_name name throwable_in b d (sym t ∙ e)
  apart name b d (inr e) t = differ throwable_name object_name throwable_in object_in refl (sym t ∙ (e ∙ number_object p))

  pub throwable_plain : (name : List ℕ) → IsPlain name → Inherits p (number_of p name) (number_of p throwable_name) → ⊥
  unfolding object_name throwable_name string_name string_builder_name print_stream_name
  throwable_plain _ object_itself h = apart object_name object_in refl (inr (only_object h (sym (number_object p)))) refl
  throwable_plain _ string h = apart string_name string_in refl (plain_one string_name string_in string_above h) refl
  throwable_plain _ string_builder h = apart string_builder_name builder_in refl (plain_one string_builder_name builder_in builder_above h) refl
  throwable_plain _ print_stream h = apart print_stream_name stream_in refl (plain_one print_stream_name stream_in stream_above h) refl

  -- ---- what is above any class

  -- what is above a class is no interface of the file, and no array
  pub above_is : (n next : ℕ) → superclass_of p n ≡ Some next → (is_file_interface (slice_get p.classes next) ≡ false) × (type_of_class p next ≡ class_type next)
  unfolding superclass_of superclass_in is_file_interface
  above_is n next e = by (slice_get p.classes n) refl e
    where
      Fine : ℕ → Type 0
      Fine z = (is_file_interface (slice_get p.classes z) ≡ false) × (type_of_class p z ≡ class_type z)

      fine : (name : List ℕ) → is_built_in name ≡ true → class_named name p ≡ Some next → Fine next
      fine name b q = let one = built name b in subst Fine (some_same _ _ (sym one.named ∙ q)) (one.no_interface, one.is_type)

      of_kind : (c : Class) (k : ClassKind) → slice_get p.classes n ≡ Some c → c.kind ≡ k → c.superclass ≡ Some next → Fine next
      of_kind c origin.File there q e =
          let x = (whole.classes n c there).below.of_file q in
          let same : x.0 ≡ next = some_same _ _ (sym x.2 ∙ e) in
          let parent : slice_get p.classes next ≡ Some x.1 = ap (slice_get p.classes) (sym same) ∙ x.3 in
          (ap is_file_interface parent ∙ no_interface (is_of_file x.1.kind) x.1.is_interface x.4.no_interface, plain_type p next x.1 parent x.4.no_array)
        where
          no_interface : (a b : Bool) → b ≡ false → (a && b) ≡ false
          no_interface true b e = e
          no_interface false b e = refl
      of_kind c origin.BuiltIn there q e =
          let s = after_some (λ m. class_named m p) (built_in_superclass c.name) next (sym ((whole.classes n c there).below.built_in q) ∙ e) in
          fine s.0 (above_built_in c.name s.0 s.1) s.2
      of_kind c origin.Outside there q e = fine object_name object_in (sym ((whole.classes n c there).below.outside q) ∙ e)
      of_kind c origin.OutsideError there q e = elim ((whole.classes n c there).below.outside_error q) [
        | inl x ↦ fine exception_name exception_in (sym x ∙ e)
        | inr x ↦ fine error_name error_in (sym x ∙ e)
      ]
      of_kind c origin.Array there q e = fine object_name object_in (sym ((whole.classes n c there).below.array q) ∙ e)

      by : (o : Option Class) → slice_get p.classes n ≡ o → superclass_in o ≡ Some next → Fine next
      by None there e = absurd cc
      by (Some c) there e = of_kind c c.kind there refl e

  -- a loose class that is no interface has Object alone above it
  pub loose_above : (class top : ℕ) → is_loose p class ≡ true → is_file_interface (slice_get p.classes class) ≡ false → superclass_of p class ≡ Some top → top ≡ object_class p
  unfolding superclass_of superclass_in is_loose is_loose_in is_loose_kind is_file_interface is_of_file
  loose_above class top l f e = by (slice_get p.classes class) refl l f e
    where
      of_kind : (c : Class) (k : ClassKind) → slice_get p.classes class ≡ Some c → c.kind ≡ k → is_loose_kind k c.is_interface ≡ true → (is_of_file k && c.is_interface) ≡ false → c.superclass ≡ Some top → top ≡ object_class p
      of_kind c origin.File there q l f e = absurd (let z = l in let y = f in cc)
      of_kind c origin.BuiltIn there q l f e = absurd cc
      of_kind c origin.Outside there q l f e = sym (some_same _ _ (sym ((whole.classes class c there).below.outside q ∙ whole.well_formed.hierarchy.object) ∙ e))
      of_kind c origin.OutsideError there q l f e = absurd cc
      of_kind c origin.Array there q l f e = absurd cc

      by : (o : Option Class) → slice_get p.classes class ≡ o → is_loose_in o ≡ true → is_file_interface o ≡ false → superclass_in o ≡ Some top → top ≡ object_class p
      by None there l f e = absurd cc
      by (Some c) there l f e = of_kind c c.kind there refl l f e
