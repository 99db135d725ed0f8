-- The layouts of a file's classes: those of built-in classes are empty, and a field of instances has its place in each class below its own.
use Rattle.std.proofs.Common.{◌≡◌, inl, inr, ℕ, zero, suc, ◌+◌, ◌<◌, Bool, true, false, not, ◌&&◌, ◌||◌, cond, List, [], ◌∷◌, ◌++◌, length, Option, Some, None, position, refl, sym, ap, ◌∙◌, subst, arith, slice_get}
use Rattle.std.specs.Prelude.{reverse, ◌==◌, option_and_then, option_map}
use Rattle.std.specs.List.{flat_map}
use Rattle.std.specs.Str.{bytes_eq}
use Rattle.std.proofs.lemmas.Option.{slice_get_within}
use Rattle.cc_meaning.specs.declared.file.ClassRow.{ClassRow}
use Rattle.cc_meaning.specs.declared.file.Ids.{Ids}
use Rattle.cc_meaning.specs.declared.file.RawClass.{RawClass}
use Rattle.cc_meaning.specs.declared.file.RawField.{RawField}
use Rattle.cc_meaning.specs.declared.program.Class.{Class}
use Rattle.cc_meaning.specs.declared.program.ClassKind.TheVariants as origin
use Rattle.cc_meaning.specs.declared.program.DexType.{DexType}
use Rattle.cc_meaning.specs.declared.program.Field.{Field}
use Rattle.cc_meaning.specs.declared.program.Program.{Program}
use Rattle.cc_meaning.specs.BuiltIn.{is_built_in, built_in_superclass, throwable_name}
use Rattle.cc_meaning.specs.Lookup.{class_named}
use Rattle.cc_meaning_program.specs.Ancestry.{kind_of_class, superclass_named, superclass_by_kind, Ancestry}
use Rattle.cc_meaning_program.specs.ClassFaults.{AreSound}
use Rattle.cc_meaning_program.specs.Members.{IsField}
use Rattle.cc_meaning_program.specs.Named.{type_name}
use Rattle.cc_meaning_program.specs.OwnMembers.{members_of, field_among, field_defined}
use Rattle.cc_meaning_program.specs.Programs.{IsProgram, fields_from, fields_of, is_number, same_truth}
use Rattle.cc_meaning_program.specs.Resolved.{names_of}
use Rattle.cc_meaning_program.specs.Rows.{FitTables}
use Rattle.cc_meaning_typing.specs.Complete.{IsComplete}
use Rattle.cc_meaning_typing.specs.Code.{string_type}
use Rattle.cc_meaning_typing.specs.Hierarchy.{superclass_in, superclass_of, on_value, climbs_to, has_ancestor, Inherits, itself, further}
use Rattle.cc_meaning_typing.specs.WellTyped.{can_be_made, is_abstract_in_file, is_of_file, is_file_class, is_file_interface}
use Rattle.cc_meaning_typing.proofs.ClassTests.{class_tests}
use Rattle.cc_meaning_typing.proofs.Tree.{test_eq}
use Rattle.cc_meaning_world.specs.Layouts.{climbs, is_below, type_in, types_of_fields, layout_in, layout_of, message_types, shape, slot}
use Rattle.cc_meaning_world.specs.Sorts.{number_of}
use Rattle.cc_program_laws.proofs.BuiltIn.{superclass_of_kind}
use Rattle.cc_program_laws.proofs.Hierarchy.{numbered}
use Rattle.cc_program_laws.proofs.Lists.{same_bytes, some_same, position_is, mapped_found}
use Rattle.cc_program_laws.proofs.Origins.{defined_kind}
use Rattle.cc_program_laws.proofs.Standing.{built_in_kind}
use Rattle.cc_run_laws.proofs.BuiltNames.{above_built_in}
use Rattle.cc_run_laws.proofs.Built.{built, called_so, above_is}
use Rattle.cc_run_laws.proofs.Members.{In, in_reverse, reverse_in, in_flat, flat_in, none_in, number_there}

pub both_true : (a b : Bool) → (a && b) ≡ true → (a ≡ true) × (b ≡ true)
both_true true b e = (refl, e)
both_true false b e = absurd cc

pub same_number : (a b : ℕ) → (a == b) ≡ true → a ≡ b
same_number a b e = elim (test_eq a b) [ inl t ↦ t.1 | inr t ↦ absurd (let q = t.0 in cc) ]

pub number_itself : (a : ℕ) → (a == a) ≡ true
number_itself a = elim (test_eq a a) [ inl t ↦ t.0 | inr t ↦ absurd (t.1 refl) ]

-- ---- the fields that a class declares

-- a field at a place, of a class of this number, static or not
pub record DeclaredAt (fields : List Field) (class : Option ℕ) (is_static : Bool) (k : ℕ) : Type 0 where
  pub field : Field
  pub there : slice_get fields k ≡ Some field
  pub owned : is_number class field.class ≡ true
  pub sorted : same_truth field.is_static is_static ≡ true

declared_from : (n : ℕ) (class : Option ℕ) (b : Bool) (fields : List Field) (f : ℕ) → In f (fields_from n class b fields) → (k : ℕ) × (f ≡ n + k) × DeclaredAt fields class b k
unfolding fields_from
declared_from n class b [] f h = absurd h
declared_from n class b (x ∷ xs) f h = by (is_number class x.class && same_truth x.is_static b) refl h (declared_from (suc n) class b xs f)
  where
    Rest : Type 0
    Rest = In f (fields_from (suc n) class b xs) → (k : ℕ) × (f ≡ suc n + k) × DeclaredAt xs class b k

    on : Rest → In f (fields_from (suc n) class b xs) → (k : ℕ) × (f ≡ n + k) × DeclaredAt (x ∷ xs) class b k
    on rest h = let r = rest h in (suc r.0, (let q = r.1 in omega arith), record { field = r.2.field; there = r.2.there; owned = r.2.owned; sorted = r.2.sorted })

    by : (t : Bool) → (is_number class x.class && same_truth x.is_static b) ≡ t → In f (cond t (n ∷ fields_from (suc n) class b xs) (fields_from (suc n) class b xs)) → Rest → (k : ℕ) × (f ≡ n + k) × DeclaredAt (x ∷ xs) class b k
    by true t (inl e) rest = let two = both_true (is_number class x.class) (same_truth x.is_static b) t in (0, omega (arith, e), record { field = x; there = refl; owned = two.0; sorted = two.1 })
    by true t (inr h) rest = on rest h
    by false t h rest = on rest h

from_declared : (n : ℕ) (class : Option ℕ) (b : Bool) (fields : List Field) (k : ℕ) → DeclaredAt fields class b k → In (n + k) (fields_from n class b fields)
unfolding fields_from
from_declared n class b [] k at = absurd (let e = at.there in cc)
from_declared n class b (x ∷ xs) zero at = by (is_number class x.class) (same_truth x.is_static b) (subst (λ (z : Field). is_number class z.class ≡ true) (sym same) at.owned) (subst (λ (z : Field). same_truth z.is_static b ≡ true) (sym same) at.sorted)
  where
    same : x ≡ at.field
    same = some_same x at.field at.there

    by : (s t : Bool) → s ≡ true → t ≡ true → In (n + 0) (cond (s && t) (n ∷ fields_from (suc n) class b xs) (fields_from (suc n) class b xs))
    by true true p q = inl (omega arith)
    by true false p q = absurd cc
    by false t p q = absurd cc
from_declared n class b (x ∷ xs) (suc k) at =
    let e : suc n + k ≡ n + suc k = omega arith in
    by (is_number class x.class && same_truth x.is_static b) (subst (λ z. In z (fields_from (suc n) class b xs)) e (from_declared (suc n) class b xs k (record { field = at.field; there = at.there; owned = at.owned; sorted = at.sorted })))
  where
    by : (t : Bool) → In (n + suc k) (fields_from (suc n) class b xs) → In (n + suc k) (cond t (n ∷ fields_from (suc n) class b xs) (fields_from (suc n) class b xs))
    by true on = inr on
    by false on = on

pub declared_in : (p : Program) (b : Bool) (name : List ℕ) (f : ℕ) → In f (fields_of p b name) → DeclaredAt p.fields (class_named name p) b f
unfolding fields_of
declared_in p b name f h = let r = declared_from 0 (class_named name p) b p.fields f h in let e : r.0 ≡ f = (let q = r.1 in omega arith) in subst (DeclaredAt p.fields (class_named name p) b) e r.2

pub in_declared : (p : Program) (b : Bool) (name : List ℕ) (f : ℕ) → DeclaredAt p.fields (class_named name p) b f → In f (fields_of p b name)
unfolding fields_of
in_declared p b name f at = let e : 0 + f ≡ f = omega arith in subst (λ z. In z (fields_from 0 (class_named name p) b p.fields)) e (from_declared 0 (class_named name p) b p.fields f at)

-- ---- the types of a layout

types_at : (p : Program) (fs : List ℕ) → ((g : ℕ) → In g fs → (field : Field) × (slice_get p.fields g ≡ Some field)) → (i f : ℕ) (field : Field) → slice_get fs i ≡ Some f → slice_get p.fields f ≡ Some field → slice_get (types_of_fields p fs) i ≡ Some field.ty
unfolding types_of_fields type_in
types_at p [] all i f field at e = absurd cc
types_at p (g ∷ gs) all zero f field at e =
    let same : g ≡ f = some_same g f at in
    ap (λ o. slice_get (type_in o ++ types_of_fields p gs) 0) (ap (slice_get p.fields) same ∙ e)
types_at p (g ∷ gs) all (suc i) f field at e =
    let one = all g (inl refl) in
    ap (λ o. slice_get (type_in o ++ types_of_fields p gs) (suc i)) one.1 ∙ types_at p gs (λ h m. all h (inr m)) i f field at e

behind : (front back : List DexType) (i : ℕ) → slice_get (front ++ back) (length front + i) ≡ slice_get back i
behind [] back i = let e : 0 + i ≡ i = omega arith in ap (slice_get back) e
behind (t ∷ ts) back i = let e : suc (length ts) + i ≡ suc (length ts + i) = omega arith in ap (slice_get (t ∷ ts ++ back)) e ∙ behind ts back i

-- ---- below, as objects are judged

module _ (p : Program) (whole : IsComplete p) where
  climb_up : (n class top : ℕ) → is_file_interface (slice_get p.classes class) ≡ false → climbs_to p n class top ≡ true → climbs p n class top ≡ true
  unfolding climbs climbs_to on_value
  climb_up zero class top f e = e
  climb_up (suc n) class top f e = by (class == top) e (λ next s e. climb_up n next top (above_is p whole class next s).0 e)
    where
      Rest : Type 0
      Rest = (next : ℕ) → superclass_of p class ≡ Some next → climbs_to p n next top ≡ true → climbs p n next top ≡ true

      next_up : Rest → (o : Option ℕ) → superclass_of p class ≡ o → on_value o false (λ next. climbs_to p n next top) ≡ true → on_value o false (λ next. climbs p n next top) ≡ true
      next_up rest None s e = absurd cc
      next_up rest (Some next) s e = rest next s e

      by : (b : Bool) → cond b true (on_value (superclass_of p class) false (λ next. climbs_to p n next top)) ≡ true → Rest → (b || (not (is_file_interface (slice_get p.classes class)) && on_value (superclass_of p class) false (λ next. climbs p n next top))) ≡ true
      by true e rest = refl
      by false e rest = ap (λ x. not x && on_value (superclass_of p class) false (λ next. climbs p n next top)) f ∙ next_up rest (superclass_of p class) refl e

  pub below_is_judged : (class top : ℕ) → class < length p.classes → is_file_interface (slice_get p.classes class) ≡ false → Inherits p class top → is_below p class top ≡ true
  unfolding is_below has_ancestor
  below_is_judged class top l f h = climb_up (length p.classes) class top f (((class_tests p whole.well_formed.hierarchy).ancestors class top l).1 h)

  -- a class that can be made is there, and is no interface
  pub made_there : (class : ℕ) → can_be_made (slice_get p.classes class) ≡ true → (c : Class) × (slice_get p.classes class ≡ Some c) × (is_file_interface (slice_get p.classes class) ≡ false)
  unfolding can_be_made is_abstract_in_file is_file_interface
  made_there class m = by (slice_get p.classes class) refl m
    where
      no_interface : (a b c d : Bool) → (not (a && (b || c)) && d) ≡ true → (a && b) ≡ false
      no_interface true true c d e = absurd cc
      no_interface true false c d e = refl
      no_interface false b c d e = refl

      by : (o : Option Class) → slice_get p.classes class ≡ o → can_be_made o ≡ true → (c : Class) × (slice_get p.classes class ≡ Some c) × (is_file_interface (slice_get p.classes class) ≡ false)
      by None e m = absurd cc
      by (Some c) e m = (c, e, ap is_file_interface e ∙ no_interface (is_of_file c.kind) c.is_interface c.is_abstract _ m)

  pub message_first : (class : ℕ) → can_be_made (slice_get p.classes class) ≡ true → Inherits p class (number_of p throwable_name) → message_types p class ≡ string_type p ∷ []
  unfolding message_types
  message_first class m h =
      let c = made_there class m in
      ap (λ b. cond b (string_type p ∷ []) []) (below_is_judged class (number_of p throwable_name) (slice_get_within p.classes class c.0 c.1) c.2 h)

  pub messages : (class : ℕ) → can_be_made (slice_get p.classes class) ≡ true → Inherits p class (number_of p throwable_name) → slice_get (shape p class) 0 ≡ Some (string_type p)
  unfolding shape
  messages class m h = ap (λ ts. slice_get (ts ++ types_of_fields p (layout_of p class)) 0) (message_first class m h)

-- ---- a program of a file

module _ (ids : Ids) (classes : List RawClass) (asked : Option (List ℕ)) (p : Program) (fit : FitTables ids) (sound : AreSound ids classes) (is : IsProgram ids classes asked p) (whole : IsComplete p) where
  -- the class that a field is defined in is one of the file
  pub field_owner_kind : (owner member : List ℕ) (raw : RawField) → field_defined ids classes owner member ≡ Some raw → kind_of_class ids owner ≡ origin.File
  unfolding field_defined members_of field_among
  field_owner_kind owner member raw e = from (position (λ (stated : ClassRow). bytes_eq (type_name ids stated.class) owner) ids.classes) refl e
    where
      from : (o : Option ℕ) → position (λ (stated : ClassRow). bytes_eq (type_name ids stated.class) owner) ids.classes ≡ o → field_among ids member (option_and_then (slice_get classes) o) ≡ Some raw → kind_of_class ids owner ≡ origin.File
      from None at e = absurd cc
      from (Some number) at e =
          let found = position_is (λ (stated : ClassRow). bytes_eq (type_name ids stated.class) owner) ids.classes number at in
          defined_kind ids classes sound owner number found.0 found.1 (same_bytes (type_name ids found.0.class) owner found.2)

  -- a class's name is what names it
  named_once : (a b : List ℕ) (number : ℕ) → class_named a p ≡ Some number → class_named b p ≡ Some number → a ≡ b
  named_once a b number x y =
      let one = called_so p whole a number x in
      let other = called_so p whole b number y in
      sym one.2 ∙ (ap (λ (c : Class). c.name) (some_same one.0 other.0 (sym one.1 ∙ other.1)) ∙ other.2)

  -- no built-in class declares a field of instances
  no_instance_field : (name : List ℕ) (f : ℕ) → is_built_in name ≡ true → In f (fields_of p false name) → ⊥
  unfolding is_number same_truth
  no_instance_field name f b h =
      let at = declared_in p false name f h in
      let one = built p whole name b in
      let owned : is_number (Some (number_of p name)) at.field.class ≡ true = subst (λ o. is_number o at.field.class ≡ true) one.named at.owned in
      let number : number_of p name ≡ at.field.class = same_number (number_of p name) at.field.class owned in
      let each = is.each_field f at.field at.there in
      let same : each.0 ≡ name = named_once each.0 name at.field.class each.2 (one.named ∙ ap Some number) in
      by each.0 each.1 at.field same (dynamic at.field.is_static at.sorted) each.4
    where
      dynamic : (s : Bool) → same_truth s false ≡ true → s ≡ false
      dynamic true e = absurd cc
      dynamic false e = refl

      by : (owner member : List ℕ) (field : Field) → owner ≡ name → field.is_static ≡ false → IsField ids classes p owner member field → ⊥
      by owner member field same s (IsField.defined {raw = raw} defined named static) =
          let file = field_owner_kind owner member raw defined in
          let own = built_in_kind ids name b in
          let q = ap (kind_of_class ids) same in
          cc
      by owner member field same s (IsField.out of_system of_out missing called spells static) = cc
      by owner member field same s (IsField.outside other missing all first refers named static) = cc

  -- all above a built-in class are built in
  all_built : (name : List ℕ) (ancestors : List (List ℕ)) (n : List ℕ) → Ancestry ids name ancestors → is_built_in name ≡ true → In n ancestors → is_built_in n ≡ true
  unfolding superclass_by_kind
  all_built name _ n (Ancestry.top e) b (inl q) = subst (λ z. is_built_in z ≡ true) (sym q) b
  all_built name _ n (Ancestry.top e) b (inr q) = absurd q
  all_built name _ n (Ancestry.up {above = a} e rest) b (inl q) = subst (λ z. is_built_in z ≡ true) (sym q) b
  all_built name _ n (Ancestry.up {above = a} {rest = tail} e rest) b (inr q) =
      let s : built_in_superclass name ≡ Some a = sym (superclass_of_kind ids name origin.BuiltIn (built_in_kind ids name b)) ∙ e in
      all_built a tail n rest (above_built_in name a s) q

  pub empty_layout : (name : List ℕ) → is_built_in name ≡ true → layout_of p (number_of p name) ≡ []
  unfolding layout_of layout_in
  empty_layout name b =
      let one = built p whole name b in
      let each = is.each_class (number_of p name) one.class one.there in
      let ancestry : Ancestry ids name each.ancestors = subst (λ n. Ancestry ids n each.ancestors) one.called each.ancestry in
      ap layout_in one.there ∙ (each.layout ∙ none_in (flat_map (fields_of p false) (reverse each.ancestors)) (λ f h.
      let x = in_flat (fields_of p false) (reverse each.ancestors) f h in
      no_instance_field x.0 f (all_built name each.ancestors x.0 ancestry b (in_reverse x.0 each.ancestors x.1)) x.2))

  -- ---- slots

  step_up : (low : ℕ) (c : Class) → slice_get p.classes low ≡ Some c → superclass_of p low ≡ option_and_then (λ name. class_named name p) (superclass_named ids c.name)
  unfolding superclass_of superclass_in
  step_up low c x = ap superclass_in x ∙ (is.each_class low c x).superclass

  -- a class above another is among its ancestors
  ancestor_in : {low top : ℕ} → Inherits p low top → (c t : Class) (ancestors : List (List ℕ)) → slice_get p.classes low ≡ Some c → slice_get p.classes top ≡ Some t → Ancestry ids c.name ancestors → In t.name ancestors
  ancestor_in itself c t ancestors x y a = first (sym (ap (λ (z : Class). z.name) (some_same c t (sym x ∙ y)))) a
    where
      first : {name n : List ℕ} {ancestors : List (List ℕ)} → n ≡ name → Ancestry ids name ancestors → In n ancestors
      first e (Ancestry.top q) = inl e
      first e (Ancestry.up q rest) = inl e
  ancestor_in (further {class = low} {above = next} s h) c t ancestors x y a = on refl a (λ k tail at rest. ancestor_in h k t tail at y rest)
    where
      Rest : Type 0
      Rest = (k : Class) (tail : List (List ℕ)) → slice_get p.classes next ≡ Some k → Ancestry ids k.name tail → In t.name tail

      step : superclass_of p low ≡ option_and_then (λ name. class_named name p) (superclass_named ids c.name)
      step = step_up low c x

      on : {name : List ℕ} {ancestors : List (List ℕ)} → name ≡ c.name → Ancestry ids name ancestors → Rest → In t.name ancestors
      on e (Ancestry.top q) go = absurd (let r = step in let z = ap (superclass_named ids) e in cc)
      on e (Ancestry.up {above = up} {rest = tail} q rest) go =
          let r : option_and_then (λ name. class_named name p) (Some up) ≡ Some next = ap (option_and_then (λ name. class_named name p)) (sym q ∙ ap (superclass_named ids) e) ∙ (sym step ∙ s) in
          let k = called_so p whole up next r in
          inr (go k.0 tail k.1 (subst (λ n. Ancestry ids n tail) (sym k.2) rest))

  -- a field of instances has a place, of its type, in each class that can be made and has the field's class above it
  pub slots : (f : ℕ) (field : Field) (class : ℕ) → can_be_made (slice_get p.classes class) ≡ true → slice_get p.fields f ≡ Some field → field.is_static ≡ false → is_file_class (slice_get p.classes field.class) ≡ true → Inherits p class field.class →
      (i : ℕ) × (slot p class f ≡ Some i) × (slice_get (shape p class) i ≡ Some field.ty)
  unfolding layout_of layout_in slot shape is_number same_truth names_of is_file_class
  slots f field class m e s file h =
      let c = made_there p whole class m in
      let t = there (slice_get p.classes field.class) refl file in
      let each = is.each_class class c.0 c.1 in
      let named : class_named t.0.name p ≡ Some field.class = numbered ids classes asked p fit sound is field.class t.0.name (mapped_found (λ (z : Class). z.name) p.classes field.class t.0 t.1) in
      let among = reverse_in t.0.name each.ancestors (ancestor_in h c.0 t.0 each.ancestors c.1 t.1 each.ancestry) in
      let owned : is_number (class_named t.0.name p) field.class ≡ true = ap (λ o. is_number o field.class) named ∙ number_itself field.class in
      let sorted : same_truth field.is_static false ≡ true = ap (λ b. same_truth b false) s in
      let declared = in_declared p false t.0.name f (record { field = field; there = e; owned = owned; sorted = sorted }) in
      let fields = flat_map (fields_of p false) (reverse each.ancestors) in
      let layout : layout_of p class ≡ fields = ap layout_in c.1 ∙ each.layout in
      let place = number_there f fields (flat_in (fields_of p false) (reverse each.ancestors) t.0.name f among declared) in (
        length (message_types p class) + place.0,
        ap (λ fs. option_map (λ i. length (message_types p class) + i) (position (λ g. g == f) fs)) layout ∙ ap (option_map (λ i. length (message_types p class) + i)) place.1,
        behind (message_types p class) (types_of_fields p (layout_of p class)) place.0 ∙ (ap (λ fs. slice_get (types_of_fields p fs) place.0) layout ∙ types_at p fields (λ g k.
            let x = in_flat (fields_of p false) (reverse each.ancestors) g k in
            let at = declared_in p false x.0 g x.2 in
            (at.field, at.there)) place.0 f field place.2 e),
      )
    where
      there : (o : Option Class) → slice_get p.classes field.class ≡ o → is_file_class o ≡ true → (t : Class) × (slice_get p.classes field.class ≡ Some t)
      there None e q = absurd cc
      there (Some t) e q = (t, e)
