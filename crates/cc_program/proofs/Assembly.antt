-- A program that is made from plans is the program of its file.
use Rattle.std.proofs.Common.{◌≡◌, ◌≢◌, ◌↔◌, ◌⊎◌, inl, inr, ℕ, zero, suc, ◌+◌, ◌<◌, Bool, true, false, List, [], ◌∷◌, ◌++◌, length, map, cond, position, slice_index_or, Option, Some, None, refl, sym, ap, ◌∙◌, subst, arith}
use Rattle.std.specs.Prelude.{slice_get, unwrap_or, option_map, Contains, AllPairs, not, nat_lt}
use Rattle.std.specs.List.{flat_map, position_or_len}
use Rattle.std.specs.Str.{bytes_eq}
use Rattle.std.specs.Cmp.Lexicographic.{slice_cmp}
use Rattle.std.specs.Ordering.{nat_cmp}
use Rattle.std.specs.declared.cmp.Ordering.TheVariants.{Equal}
use Rattle.std.proofs.lemmas.Bool.{false_from_ne_true}
use Rattle.std.proofs.lemmas.Cmp.{nat_list_cmp_total, tied_itself}
use Rattle.std.proofs.lemmas.List.Sums.{position_or_len_is}
use Rattle.std.proofs.lemmas.Option.{slice_get_within, slice_get-get_or, get_or_from_slice_get, slice_get-map}
use Rattle.std.proofs.lemmas.Slice.Eq.{bytes_eq-Decides}
use Rattle.cc_meaning.specs.declared.file.Ids.{Ids}
use Rattle.cc_meaning.specs.declared.file.RawClass.{RawClass}
use Rattle.cc_meaning.specs.declared.file.RawField.{RawField}
use Rattle.cc_meaning.specs.declared.file.RawMethod.{RawMethod}
use Rattle.cc_meaning.specs.declared.instruction.Insn.{Insn}
use Rattle.cc_meaning.specs.declared.instruction.Insn.TheVariants as insn
use Rattle.cc_meaning.specs.declared.instruction.MethodRef.TheVariants as ref
use Rattle.cc_meaning.specs.declared.program.Class.{Class}
use Rattle.cc_meaning.specs.declared.program.Field.{Field}
use Rattle.cc_meaning.specs.declared.program.Method.{Method}
use Rattle.cc_meaning.specs.declared.program.Placed.{Placed}
use Rattle.cc_meaning.specs.declared.program.Program.{Program}
use Rattle.cc_meaning.specs.Lookup.{class_named, method_named}
use Rattle.cc_meaning.specs.Names.{field_name, method_name}
use Rattle.cc_meaning.specs.Order.{IsBefore, IsRising, MethodsRise, FieldsRise}
use Rattle.cc_meaning_program.specs.declared.reference.Reference.TheVariants as reference
use Rattle.cc_meaning_program.specs.ClassNames.{AreClassNames}
use Rattle.cc_meaning_program.specs.Named.{field_member, method_member}
use Rattle.cc_meaning_program.specs.References.{reference_of, named_method}
use Rattle.cc_meaning_program.specs.Members.{IsMethod, IsField, BelongsMethod, BelongsField, out_member}
use Rattle.cc_meaning_program.specs.Naming.{RowNamesMethod, RowNamesField, NamesMethod, NamesField}
use Rattle.cc_meaning_program.specs.Programs.{HasMethod, HasField, IsMethodOf, IsFieldOf}
use Rattle.cc_meaning_program.specs.Resolved.{names_of, whole_name}
use Rattle.cc_meaning_program.specs.Searches.{First}
use Rattle.cc_meaning_program.specs.declared.plan.FieldPlan.{FieldPlan}
use Rattle.cc_meaning_program.specs.declared.plan.FieldSource.{FieldSource}
use Rattle.cc_meaning_program.specs.declared.plan.FieldSource.TheVariants as from_field
use Rattle.cc_meaning_program.specs.declared.plan.MethodPlan.{MethodPlan}
use Rattle.cc_meaning_program.specs.declared.plan.MethodSource.{MethodSource}
use Rattle.cc_meaning_program.specs.declared.plan.MethodSource.TheVariants as from
use Rattle.cc_meaning_program.specs.declared.uses.MethodUse.{MethodUse}
use Rattle.cc_meaning_program.specs.OwnerNumbers.{method_placed, field_placed}
use Rattle.cc_meaning_program.specs.Plans.{name_at, source_member, raw_method_member, listed_member, method_plan_name, IsSource, AreMethodPlans, field_source_member, raw_field_member, field_plan_name, IsFieldSource, AreFieldPlans}
use Rattle.cc_meaning_program.specs.Uses.{AreUses, method_use_of, field_use_of, method_uses_of, field_uses_of}

-- ---- lists

pub some_same : {A : Type 0} (x y : A) → Some x ≡ Some y → x ≡ y
some_same x y e = cc

place_found : {X : Type 0} (p : X → Bool) (xs : List X) (i : ℕ) → position_or_len p xs ≡ i → i < length xs → position p xs ≡ Some i
place_found p xs i e h = grind (arith, e, h)

not_before_itself : (name : List ℕ) → IsBefore name name → ⊥
not_before_itself name less =
    let same : slice_cmp nat_cmp name name ≡ Equal = tied_itself nat_list_cmp_total name in
    absurd cc

bytes_differ : (a b : List ℕ) → a ≢ b → bytes_eq a b ≡ false
bytes_differ a b other = false_from_ne_true (bytes_eq a b) (λ e. other ((bytes_eq-Decides a b).0 e))

-- a name's place among names that rise
pub place_of_name : (names : List (List ℕ)) (k : ℕ) (name : List ℕ) → IsRising names → slice_get names k ≡ Some name → position (λ (other : List ℕ). bytes_eq other name) names ≡ Some k
place_of_name names k name rise e =
    let within = slice_get_within names k name e in
    let here : slice_index_or names k name ≡ name = get_or_from_slice_get names k name name e in
    place_found (λ (other : List ℕ). bytes_eq other name) names k
    (position_or_len_is (λ (other : List ℕ). bytes_eq other name) names k name (omega (arith, within))
    (λ j below. bytes_differ (slice_index_or names j name) name (λ same. not_before_itself name (subst (λ n. IsBefore n name) same (subst (λ n. IsBefore (slice_index_or names j name) n) here (rise j k name below within)))))
    (λ h. subst (λ n. bytes_eq n name ≡ true) (sym here) ((bytes_eq-Decides name name).1 refl)))
    within

length_map : {A B : Type 0} (f : A → B) (xs : List A) → length (map f xs) ≡ length xs
length_map f [] = refl
length_map f (x ∷ xs) = ap suc (length_map f xs)

first_place_map : {A B : Type 0} (test : B → Bool) (f : A → B) (xs : List A) → position_or_len (λ x. test (f x)) xs ≡ position_or_len test (map f xs)
first_place_map test f [] = refl
first_place_map test f (x ∷ xs) = ap (λ n. cond (not (test (f x))) (1 + n) 0) (first_place_map test f xs)

pub position_map : {A B : Type 0} (test : B → Bool) (f : A → B) (xs : List A) → position (λ x. test (f x)) xs ≡ position test (map f xs)
position_map test f xs =
    let place = first_place_map test f xs in
    let long = length_map f xs in
    ap (λ n. cond (nat_lt n (length xs)) (Some n) None) place ∙ ap (λ m. cond (nat_lt (position_or_len test (map f xs)) m) (Some (position_or_len test (map f xs))) None) (sym long)

some_mapped : {A B : Type 0} (f : A → B) (o : Option A) (y : B) → option_map f o ≡ Some y → (x : A) × (o ≡ Some x) × (f x ≡ y)
some_mapped f (Some x) y e = (x, refl, cc)
some_mapped f None y e = absurd (cc)

pub found_mapped : {A B : Type 0} (f : A → B) (xs : List A) (k : ℕ) (y : B) → slice_get (map f xs) k ≡ Some y → (x : A) × (slice_get xs k ≡ Some x) × (f x ≡ y)
found_mapped f xs k y e = some_mapped f (slice_get xs k) y (sym (slice_get-map f xs k) ∙ e)

pub mapped_found : {A B : Type 0} (f : A → B) (xs : List A) (k : ℕ) (x : A) → slice_get xs k ≡ Some x → slice_get (map f xs) k ≡ Some (f x)
mapped_found f xs k x e = slice_get-map f xs k ∙ ap (option_map f) e

pub contained_at : {A : Type 0} (xs : List A) (x : A) → Contains xs x → (k : ℕ) × (slice_get xs k ≡ Some x)
contained_at xs x (k, within, is) = (k, slice_get-get_or xs k x within ∙ ap Some is)

rising_unmapped : {A : Type 0} (f : A → List ℕ) (xs : List A) → IsRising (map f xs) → AllPairs (λ x y. IsBefore (f x) (f y)) xs
rising_unmapped f xs rise i j d below within =
    let long = length_map f xs in
    let left : slice_index_or (map f xs) i (f d) ≡ f (slice_index_or xs i d) = get_or_from_slice_get (map f xs) i (f (slice_index_or xs i d)) (f d) (mapped_found f xs i (slice_index_or xs i d) (slice_get-get_or xs i d (omega arith))) in
    let right : slice_index_or (map f xs) j (f d) ≡ f (slice_index_or xs j d) = get_or_from_slice_get (map f xs) j (f (slice_index_or xs j d)) (f d) (mapped_found f xs j (slice_index_or xs j d) (slice_get-get_or xs j d within)) in
    subst (λ n. IsBefore n (f (slice_index_or xs j d))) left (subst (λ n. IsBefore (slice_index_or (map f xs) i (f d)) n) right (rise i j (f d) below (omega (arith, long))))

first_among : {A : Type 0} {is_so : A → Type 0} (xs : List A) (x : A) → First is_so xs x → Contains xs x × is_so x
first_among _ x (First.here so) = ((0, omega arith, refl), so)
first_among _ x (First.later {xs = tail} other rest) =
    let found = first_among tail x rest in
    let within = found.0.1 in
    ((suc found.0.0, omega (arith, within), found.0.2), found.1)

in_tail : {A : Type 0} (x : A) (xs : List A) (y : A) → Contains xs y → Contains (x ∷ xs) y
in_tail x xs y (k, within, is) = (suc k, omega (arith, within), is)

in_parts : {A : Type 0} (xs ys : List A) (y : A) → Contains (xs ++ ys) y → Contains xs y ⊎ Contains ys y
in_parts [] ys y has = inr has
in_parts (x ∷ xs) ys y (zero, within, is) = inl (0, omega arith, is)
in_parts (x ∷ xs) ys y (suc k, within, is) = from (in_parts xs ys y (k, omega (arith, within), is))
  where
    from : Contains xs y ⊎ Contains ys y → Contains (x ∷ xs) y ⊎ Contains ys y
    from (inl left) = inl (in_tail x xs y left)
    from (inr right) = inr right

-- what a list of lists has, one of them has
from_part : {A B : Type 0} (f : A → List B) (xs : List A) (y : B) → Contains (flat_map f xs) y → (x : A) × Contains xs x × Contains (f x) y
from_part f [] y (k, within, is) = absurd (omega (arith, within))
from_part {A} {B} f (x ∷ xs) y has = from (in_parts (f x) (flat_map f xs) y has) (from_part f xs y)
  where
    from : Contains (f x) y ⊎ Contains (flat_map f xs) y → (Contains (flat_map f xs) y → (z : A) × Contains xs z × Contains (f z) y) → (z : A) × Contains (x ∷ xs) z × Contains (f z) y
    from (inl here) later = (x, (0, omega arith, refl), here)
    from (inr there) later = let found = later there in (found.0, in_tail x xs found.0 found.1, found.2)

only_one : {A : Type 0} (x y : A) → Contains (x ∷ []) y → x ≡ y
only_one x y (zero, within, is) = is
only_one x y (suc k, within, is) = absurd (omega (arith, within))

none_in : {A : Type 0} {P : Type 0} (y : A) → Contains [] y → P
none_in y (k, within, is) = absurd (omega (arith, within))

method_used : (one : Insn) (used : MethodUse) → Contains (method_use_of one) used → reference_of one ≡ Some (reference.Method used.row)
unfolding method_use_of reference_of named_method
method_used (insn.Invoke called (ref.Row row) args) used among = ap (λ (it : MethodUse). Some (reference.Method it.row)) (only_one _ used among)
method_used other used among = none_in used among

field_used : (one : Insn) (row : ℕ) → Contains (field_use_of one) row → reference_of one ≡ Some (reference.Field row)
unfolding field_use_of reference_of
field_used (insn.FieldGet kind to object field) row among = ap (λ (it : ℕ). Some (reference.Field it)) (only_one field row among)
field_used (insn.FieldPut kind from object field) row among = ap (λ (it : ℕ). Some (reference.Field it)) (only_one field row among)
field_used (insn.StaticGet kind to field) row among = ap (λ (it : ℕ). Some (reference.Field it)) (only_one field row among)
field_used (insn.StaticPut kind from field) row among = ap (λ (it : ℕ). Some (reference.Field it)) (only_one field row among)
field_used other row among = none_in row among

-- ---- names

pub name_there : (names : List (List ℕ)) (number : ℕ) (name : List ℕ) → slice_get names number ≡ Some name → name_at names number ≡ name
unfolding name_at
name_there names number name e = ap (λ o. unwrap_or o []) e

-- two things made from one list have the same names in the same places
made_name : {A B : Type 0} (f : A → List ℕ) (g : B → List ℕ) (xs : List A) (ys : List B) → map f xs ≡ map g ys → (k : ℕ) (x : A) → slice_get xs k ≡ Some x → (y : B) × (slice_get ys k ≡ Some y) × (f x ≡ g y)
made_name f g xs ys same k x e =
    let there = found_mapped g ys k (f x) (ap (λ ns. slice_get ns k) (sym same) ∙ mapped_found f xs k x e) in
    (there.0, there.1, sym there.2)

-- ---- a program and its plans

module _ (ids : Ids) (classes : List RawClass) (program : Program) (names : List (List ℕ)) (uses : List MethodUse) (used_fields : List ℕ)
    (class_names : AreClassNames ids names) (named : names_of program ≡ names) (are_uses : AreUses classes uses used_fields) where
  -- the class of a number has its name
  class_numbered : (number : ℕ) (name : List ℕ) → slice_get names number ≡ Some name → class_named name program ≡ Some number
  unfolding names_of
  class_numbered number name e =
      position_map (λ n. bytes_eq n name) (λ (class : Class). class.name) program.classes
      ∙ place_of_name (names_of program) number name (subst IsRising (sym named) class_names.rise) (ap (λ ns. slice_get ns number) named ∙ e)

  module _ (plans : List MethodPlan) (are_plans : AreMethodPlans ids classes names uses plans)
      (method_names : map (method_name program) program.methods ≡ map (method_plan_name ids classes names) plans)
      (are : (number : ℕ) (plan : MethodPlan) (method : Method) → slice_get plans number ≡ Some plan → slice_get program.methods number ≡ Some method → (method.class ≡ plan.owner) × IsMethod ids classes program (name_at names plan.owner) (source_member ids classes (name_at names plan.owner) plan.source) method) where
    pub methods_rise : MethodsRise program
    methods_rise = rising_unmapped (method_name program) program.methods (subst IsRising (sym method_names) are_plans.rise)

    belongs : (class : List ℕ) (number : ℕ) → slice_get names number ≡ Some class → (source : MethodSource) → IsSource ids classes uses class source → BelongsMethod ids classes class (source_member ids classes class source)
    unfolding source_member raw_method_member listed_member method_uses_of
    belongs class number there _ (IsSource.file {place = place} {raw = raw} placed defined) =
        subst (BelongsMethod ids classes class) (sym (ap (raw_method_member ids) placed)) (BelongsMethod.defined defined)
    belongs class number there _ (IsSource.built_in {place = place} {listed = listed} stands is defined) =
        subst (BelongsMethod ids classes class) (sym (ap listed_member stands)) (BelongsMethod.built_in ((class_names.are class).0 (number, slice_get_within names number class there, get_or_from_slice_get names number class class there)) is)
    belongs class number there _ (IsSource.outside {used = used} first defined listed) =
        let among = first_among uses used first in
        let placed = from_part (λ (placed : Placed). method_use_of placed.insn) are_uses.instructions used (subst (λ us. Contains us used) are_uses.of_methods among.0) in
        BelongsMethod.named are_uses.are placed.1 (record { row = used.row; refers = method_used placed.0.insn used placed.2; names = among.1 })

    planned : (number : ℕ) (plan : MethodPlan) → slice_get plans number ≡ Some plan → IsMethodOf ids classes (method_plan_name ids classes names plan)
    unfolding method_plan_name
    planned number plan e =
        let owner = are_plans.owned number plan e in
        let name = name_there names plan.owner owner.0 owner.1 in (
          name_at names plan.owner,
          source_member ids classes (name_at names plan.owner) plan.source,
          refl,
          belongs (name_at names plan.owner) plan.owner (owner.1 ∙ ap Some (sym name)) plan.source (are_plans.each number plan e),
        )

    pub methods_are : (name : List ℕ) → HasMethod program name ↔ IsMethodOf ids classes name
    methods_are name = (
      λ has.
          let plan = made_name (method_name program) (method_plan_name ids classes names) program.methods plans method_names has.0 has.1 has.2 in
          subst (IsMethodOf ids classes) (sym plan.2 ∙ has.3) (planned has.0 plan.0 plan.1),
      λ is.
          let there = contained_at (map (method_plan_name ids classes names) plans) (whole_name is.0 is.1) (are_plans.all is.0 is.1 is.3) in
          let found = found_mapped (method_name program) program.methods there.0 (whole_name is.0 is.1) (ap (λ ns. slice_get ns there.0) method_names ∙ there.1) in
          (there.0, found.0, found.1, found.2 ∙ sym is.2),
    )

    pub each_method : (number : ℕ) (method : Method) → slice_get program.methods number ≡ Some method →
        (owner : List ℕ) × (member : List ℕ) × (class_named owner program ≡ Some method.class) × (method_name program method ≡ whole_name owner member) × IsMethod ids classes program owner member method
    unfolding method_plan_name
    each_method number method e =
        let plan = made_name (method_name program) (method_plan_name ids classes names) program.methods plans method_names number method e in
        let owner = are_plans.owned number plan.0 plan.1 in
        let name = name_there names plan.0.owner owner.0 owner.1 in
        let is = are number plan.0 method plan.1 e in (
          name_at names plan.0.owner,
          source_member ids classes (name_at names plan.0.owner) plan.0.source,
          class_numbered plan.0.owner (name_at names plan.0.owner) (owner.1 ∙ ap Some (sym name)) ∙ ap Some (sym is.0),
          plan.2,
          is.1,
        )

    -- the method of a plan's name has the plan's number
    pub method_numbered : (number : ℕ) (plan : MethodPlan) (name : List ℕ) → slice_get plans number ≡ Some plan → method_plan_name ids classes names plan ≡ name → method_named name program ≡ Some number
    method_numbered number plan name e is =
        position_map (λ n. bytes_eq n name) (method_name program) program.methods
        ∙ place_of_name (map (method_name program) program.methods) number name (subst IsRising (sym method_names) are_plans.rise)
        (ap (λ ns. slice_get ns number) method_names ∙ (mapped_found (method_plan_name ids classes names) plans number plan e ∙ ap Some is))

  module _ (plans : List FieldPlan) (are_plans : AreFieldPlans ids classes names used_fields plans)
      (field_names : map (field_name program) program.fields ≡ map (field_plan_name ids classes names) plans)
      (are : (number : ℕ) (plan : FieldPlan) (field : Field) → slice_get plans number ≡ Some plan → slice_get program.fields number ≡ Some field → (field.class ≡ plan.owner) × IsField ids classes program (name_at names plan.owner) (field_source_member ids classes (name_at names plan.owner) plan.source) field) where
    pub fields_rise : FieldsRise program
    fields_rise = rising_unmapped (field_name program) program.fields (subst IsRising (sym field_names) are_plans.rise)

    field_belongs : (class : List ℕ) (source : FieldSource) → IsFieldSource ids classes used_fields class source → BelongsField ids classes class (field_source_member ids classes class source)
    unfolding field_source_member raw_field_member field_uses_of
    field_belongs class _ (IsFieldSource.file {place = place} {raw = raw} placed defined) = subst (BelongsField ids classes class) (sym (ap (raw_field_member ids) placed)) (BelongsField.defined defined)
    field_belongs class _ (IsFieldSource.out system missing) = BelongsField.out system refl
    field_belongs class _ (IsFieldSource.outside {row = row} other first defined) =
        let among = first_among used_fields row first in
        let placed = from_part (λ (placed : Placed). field_use_of placed.insn) are_uses.instructions row (subst (λ us. Contains us row) are_uses.of_fields among.0) in
        BelongsField.named are_uses.are placed.1 (record { row = row; refers = field_used placed.0.insn row placed.2; names = among.1 })

    field_planned : (number : ℕ) (plan : FieldPlan) → slice_get plans number ≡ Some plan → IsFieldOf ids classes (field_plan_name ids classes names plan)
    unfolding field_plan_name
    field_planned number plan e = (name_at names plan.owner, field_source_member ids classes (name_at names plan.owner) plan.source, refl, field_belongs (name_at names plan.owner) plan.source (are_plans.each number plan e))

    pub fields_are : (name : List ℕ) → HasField program name ↔ IsFieldOf ids classes name
    fields_are name = (
      λ has.
          let plan = made_name (field_name program) (field_plan_name ids classes names) program.fields plans field_names has.0 has.1 has.2 in
          subst (IsFieldOf ids classes) (sym plan.2 ∙ has.3) (field_planned has.0 plan.0 plan.1),
      λ is.
          let there = contained_at (map (field_plan_name ids classes names) plans) (whole_name is.0 is.1) (are_plans.all is.0 is.1 is.3) in
          let found = found_mapped (field_name program) program.fields there.0 (whole_name is.0 is.1) (ap (λ ns. slice_get ns there.0) field_names ∙ there.1) in
          (there.0, found.0, found.1, found.2 ∙ sym is.2),
    )

    pub each_field : (number : ℕ) (field : Field) → slice_get program.fields number ≡ Some field →
        (owner : List ℕ) × (member : List ℕ) × (class_named owner program ≡ Some field.class) × (field_name program field ≡ whole_name owner member) × IsField ids classes program owner member field
    unfolding field_plan_name
    each_field number field e =
        let plan = made_name (field_name program) (field_plan_name ids classes names) program.fields plans field_names number field e in
        let owner = are_plans.owned number plan.0 plan.1 in
        let name = name_there names plan.0.owner owner.0 owner.1 in
        let is = are number plan.0 field plan.1 e in (
          name_at names plan.0.owner,
          field_source_member ids classes (name_at names plan.0.owner) plan.0.source,
          class_numbered plan.0.owner (name_at names plan.0.owner) (owner.1 ∙ ap Some (sym name)) ∙ ap Some (sym is.0),
          plan.2,
          is.1,
        )
