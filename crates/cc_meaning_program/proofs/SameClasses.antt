-- The classes of two programs of one file are one.
use Rattle.std.proofs.Common.{◌≡◌, ◌⊎◌, inl, inr, ℕ, ◌-◌, ◌<◌, Bool, true, false, cond, List, [], ◌∷◌, ◌++◌, length, map, reverse, get_or, Option, Some, None, refl, sym, ap, ◌∙◌, subst, arith}
use Rattle.std.specs.Prelude.{slice_get, option_and_then, position, codes}
use Rattle.std.specs.List.{flat_map}
use Rattle.std.specs.Str.{bytes_eq}
use Rattle.std.proofs.lemmas.Option.{slice_get_within, slice_get-get_or}
use Rattle.cc_meaning.specs.declared.file.Ids.{Ids}
use Rattle.cc_meaning.specs.declared.file.RawClass.{RawClass}
use Rattle.cc_meaning.specs.declared.program.Class.{Class}
use Rattle.cc_meaning.specs.declared.program.ClassKind.{ClassKind}
use Rattle.cc_meaning.specs.declared.program.Field.{Field}
use Rattle.cc_meaning.specs.declared.program.Program.{Program}
use Rattle.cc_meaning.specs.declared.program.StaticValue.{StaticValue}
use Rattle.cc_meaning.specs.declared.program.StaticValue.TheVariants as value
use Rattle.cc_meaning.specs.Lookup.{class_named, method_named}
use Rattle.cc_meaning_program.specs.Named.{text_of}
use Rattle.cc_meaning_program.specs.Ancestry.{Ancestry, kind_of_class, superclass_named, interfaces_named, definition_of}
use Rattle.cc_meaning_program.specs.OwnMembers.{members_of}
use Rattle.cc_meaning_program.specs.Programs.{fields_from, fields_of, has_class_flag, value_among, field_within_class, value_listed, ValueResolved, ValueIs, AreValues, is_run, static_with_code, IsClass}
use Rattle.cc_meaning_program.specs.Resolved.{whole_name}
use Rattle.cc_meaning_program.proofs.Alike.{same_descriptor, same_lists}
use Rattle.cc_meaning_program.proofs.Once.{ancestry_once}
use Rattle.cc_meaning_program.proofs.SameCode.{Agree, three_parts}
use Rattle.cc_meaning_program.proofs.SameLists.{some_is}

pub lt_cases : (i j : ℕ) → (i < j) ⊎ ((j < i) ⊎ (i ≡ j))
lt_cases i j = grind arith

-- ---- functions that agree

and_then_same : {A B : Type 0} (f g : A → Option B) → ((x : A) → f x ≡ g x) → (o : Option A) → option_and_then f o ≡ option_and_then g o
and_then_same f g same None = refl
and_then_same f g same (Some x) = same x

map_same : {A B : Type 0} (f g : A → B) → ((x : A) → f x ≡ g x) → (xs : List A) → map f xs ≡ map g xs
map_same f g same [] = refl
map_same f g same (x ∷ xs) = ap (λ y. y ∷ map f xs) (same x) ∙ ap (λ ys. g x ∷ ys) (map_same f g same xs)

flat_map_same : {A B : Type 0} (f g : A → List B) → ((x : A) → f x ≡ g x) → (xs : List A) → flat_map f xs ≡ flat_map g xs
flat_map_same f g same [] = refl
flat_map_same f g same (x ∷ xs) = ap (λ y. y ++ flat_map f xs) (same x) ∙ ap (λ ys. g x ++ ys) (flat_map_same f g same xs)

all_some : (xs ys : List ℕ) → map Some xs ≡ map Some ys → xs ≡ ys
all_some [] [] e = refl
all_some [] (y ∷ ys) e = absurd (cc)
all_some (x ∷ xs) [] e = absurd (cc)
all_some (x ∷ xs) (y ∷ ys) e =
    let first : x ≡ y = cc in
    let rest : map Some xs ≡ map Some ys = cc in
    ap (λ z. z ∷ xs) first ∙ ap (λ zs. y ∷ zs) (all_some xs ys rest)

-- ---- two programs

module _ (ids : Ids) (classes : List RawClass) (this that : Program) (agree : Agree ids classes this that) (methods : this.methods ≡ that.methods) (fields : this.fields ≡ that.fields) where
  own_fields : (is_static : Bool) (class : List ℕ) → fields_of this is_static class ≡ fields_of that is_static class
  unfolding fields_of
  own_fields is_static class = ap (λ n. fields_from 0 n is_static this.fields) (agree.class class) ∙ ap (λ fs. fields_from 0 (class_named class that) is_static fs) fields

  initialisers : (name : List ℕ) → static_with_code this name ≡ static_with_code that name
  unfolding static_with_code
  initialisers name =
      ap (λ o. option_and_then (λ n. cond (is_run (slice_get this.methods n)) (Some n) None) o) (agree.method name)
      ∙ ap (λ ms. option_and_then (λ n. cond (is_run (slice_get ms n)) (Some n) None) (method_named name that)) methods

  -- ---- static values

  field_at : (n : ℕ) → slice_get this.fields n ≡ slice_get that.fields n
  field_at n = ap (λ fs. slice_get fs n) fields

  listed_same : (class : List ℕ) (o : Option Field) → value_listed ids classes this class o ≡ value_listed ids classes that class o
  unfolding value_listed field_within_class
  listed_same class None = refl
  listed_same class (Some field) = ap (λ d. value_among ids (field.name ++ codes ":" ++ d) (members_of ids classes class)) (same_descriptor this that agree.names field.ty)

  listed_at : (class : List ℕ) (n : ℕ) → value_listed ids classes this class (slice_get this.fields n) ≡ value_listed ids classes that class (slice_get that.fields n)
  listed_at class n = listed_same class (slice_get this.fields n) ∙ ap (value_listed ids classes that class) (field_at n)

  resolved_once : (listed a b : StaticValue) → ValueResolved ids this listed a → ValueResolved ids that listed b → a ≡ b
  resolved_once _ _ _ ValueResolved.int ValueResolved.int = refl
  resolved_once _ _ _ ValueResolved.long ValueResolved.long = refl
  resolved_once _ _ _ ValueResolved.null ValueResolved.null = refl
  resolved_once _ _ _ (ValueResolved.text {row = row} {number = n} one) (ValueResolved.text {number = k} two) =
      ap value.Text (some_is n k (sym one ∙ (ap (λ texts. position (λ (t : List ℕ). bytes_eq t (text_of ids row)) texts) agree.texts ∙ two)))

  value_once : (field : Option Field) (listed : Option StaticValue) (a b : StaticValue) → ValueIs ids this field listed a → ValueIs ids that field listed b → a ≡ b
  value_once field None a b one two = one ∙ sym two
  value_once field (Some listed) a b one two = resolved_once listed a b one two

  not_longer : (class : List ℕ) (own : List ℕ) (xs ys : List StaticValue) → AreValues ids classes this class own xs → AreValues ids classes that class own ys → length xs < length ys → ⊥
  not_longer class own xs ys one two shorter =
      let place : ℕ = length ys - 1 in
      let few = two.few in
      let there : slice_get own place ≡ Some (get_or own place 0) = slice_get-get_or own place 0 (omega arith) in
      two.last place (get_or own place 0) (omega arith) there (sym (listed_at class (get_or own place 0)) ∙ one.all place (get_or own place 0) there (omega arith))

  not_shorter : (class : List ℕ) (own : List ℕ) (xs ys : List StaticValue) → AreValues ids classes this class own xs → AreValues ids classes that class own ys → length ys < length xs → ⊥
  not_shorter class own xs ys one two longer =
      let place : ℕ = length xs - 1 in
      let few = one.few in
      let there : slice_get own place ≡ Some (get_or own place 0) = slice_get-get_or own place 0 (omega arith) in
      one.last place (get_or own place 0) (omega arith) there (listed_at class (get_or own place 0) ∙ two.all place (get_or own place 0) there (omega arith))

  values_once : (class : List ℕ) (own : List ℕ) (xs ys : List StaticValue) → AreValues ids classes this class own xs → AreValues ids classes that class own ys → xs ≡ ys
  values_once class own xs ys one two =
      same_lists xs ys
      (from (lt_cases (length xs) (length ys)))
      (λ k x y first second.
      let within : k < length xs = slice_get_within xs k x first in
      let few = one.few in
      let there : slice_get own k ≡ Some (get_or own k 0) = slice_get-get_or own k 0 (omega arith) in
      let n : ℕ = get_or own k 0 in
      let mine = one.each k n x there first in
      let other = two.each k n y there second in
      value_once (slice_get that.fields n) (value_listed ids classes that class (slice_get that.fields n)) x y
      (subst (λ f. ValueIs ids this f (value_listed ids classes that class (slice_get that.fields n)) x) (field_at n)
      (subst (λ l. ValueIs ids this (slice_get this.fields n) l x) (listed_at class n) mine)) other)
    where
      from : (length xs < length ys) ⊎ ((length ys < length xs) ⊎ (length xs ≡ length ys)) → length xs ≡ length ys
      from (inl less) = absurd (not_longer class own xs ys one two less)
      from (inr (inl more)) = absurd (not_shorter class own xs ys one two more)
      from (inr (inr same)) = same

  -- ---- a class

  abbrev class_of : List ℕ → ClassKind → Option ℕ → List ℕ → Bool → Bool → List ℕ → Option ℕ → List StaticValue → Class
  class_of name kind superclass interfaces is_interface is_abstract layout initialiser values =
      record { name = name; kind = kind; superclass = superclass; interfaces = interfaces; is_interface = is_interface; is_abstract = is_abstract; layout = layout; initialiser = initialiser; values = values }

  pub class_once : (k : ℕ) (a b : Class) → a.name ≡ b.name → IsClass ids classes this k a → IsClass ids classes that k b → a ≡ b
  class_once k a b name one two =
      let kind : a.kind ≡ b.kind = one.kind ∙ (ap (kind_of_class ids) name ∙ sym two.kind) in
      let superclass : a.superclass ≡ b.superclass =
      one.superclass ∙ (and_then_same (λ n. class_named n this) (λ n. class_named n that) agree.class (superclass_named ids a.name)
      ∙ (ap (λ n. option_and_then (λ m. class_named m that) (superclass_named ids n)) name ∙ sym two.superclass)) in
      let interfaces : a.interfaces ≡ b.interfaces =
      all_some a.interfaces b.interfaces (one.interfaces ∙ (map_same (λ n. class_named n this) (λ n. class_named n that) agree.class (interfaces_named ids a.name)
      ∙ (ap (λ n. map (λ m. class_named m that) (interfaces_named ids n)) name ∙ sym two.interfaces))) in
      let is_interface : a.is_interface ≡ b.is_interface = one.is_interface ∙ (ap (λ n. has_class_flag 512 (definition_of ids n)) name ∙ sym two.is_interface) in
      let is_abstract : a.is_abstract ≡ b.is_abstract = one.is_abstract ∙ (ap (λ n. has_class_flag 1024 (definition_of ids n)) name ∙ sym two.is_abstract) in
      let ancestors : one.ancestors ≡ two.ancestors = ancestry_once ids b.name one.ancestors two.ancestors (subst (λ n. Ancestry ids n one.ancestors) name one.ancestry) two.ancestry in
      let layout : a.layout ≡ b.layout =
      one.layout ∙ (flat_map_same (fields_of this false) (fields_of that false) (own_fields false) (reverse one.ancestors) ∙ (ap (λ up. flat_map (fields_of that false) (reverse up)) ancestors ∙ sym two.layout)) in
      let initialiser : a.initialiser ≡ b.initialiser =
      one.initialiser ∙ (initialisers (whole_name a.name (codes "<clinit>()V")) ∙ (ap (λ n. static_with_code that (whole_name n (codes "<clinit>()V"))) name ∙ sym two.initialiser)) in
      let own : fields_of this true a.name ≡ fields_of that true b.name = own_fields true a.name ∙ ap (fields_of that true) name in
      let values : a.values ≡ b.values =
      values_once b.name (fields_of that true b.name) a.values b.values
      (subst (λ f. AreValues ids classes this b.name f a.values) own (subst (λ n. AreValues ids classes this n (fields_of this true a.name) a.values) name one.values)) two.values in
      three_parts (λ x y z. class_of x y z a.interfaces a.is_interface a.is_abstract a.layout a.initialiser a.values) name kind superclass
      ∙ (three_parts (λ x y z. class_of b.name b.kind b.superclass x y z a.layout a.initialiser a.values) interfaces is_interface is_abstract
      ∙ three_parts (class_of b.name b.kind b.superclass b.interfaces b.is_interface b.is_abstract) layout initialiser values)
