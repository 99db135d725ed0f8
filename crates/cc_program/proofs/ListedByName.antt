-- The value of a field by its number is that by its name.
use Rattle.std.proofs.Common.{◌≡◌, ℕ, ◌<◌, Bool, true, false, List, [], ◌++◌, Option, Some, None, position, refl, sym, ap, ◌∙◌, subst}
use Rattle.std.specs.Prelude.{slice_get, option_and_then, unwrap_or, codes}
use Rattle.std.specs.Str.{bytes_eq}
use Rattle.std.proofs.lemmas.List.{append_assoc}
use Rattle.std.proofs.lemmas.Option.{slice_get-map}
use Rattle.std.proofs.lemmas.Slice.Eq.{bytes_eq-Decides}
use Rattle.cc_meaning.specs.declared.file.ClassRow.{ClassRow}
use Rattle.cc_meaning.specs.declared.file.Ids.{Ids}
use Rattle.cc_meaning.specs.declared.file.RawClass.{RawClass}
use Rattle.cc_meaning.specs.declared.file.RawField.{RawField}
use Rattle.cc_meaning.specs.declared.program.Field.{Field}
use Rattle.cc_meaning.specs.declared.program.Method.{Method}
use Rattle.cc_meaning.specs.declared.program.Program.{Program}
use Rattle.cc_meaning.specs.Names.{field_name, class_name, descriptor}
use Rattle.cc_meaning_program.specs.ClassFaults.{AreSound, IsDuplicate}
use Rattle.cc_meaning_program.specs.ClassNames.{AreClassNames}
use Rattle.cc_meaning_program.specs.Named.{type_name, field_member}
use Rattle.cc_meaning_program.specs.OwnMembers.{members_of, field_among, field_defined}
use Rattle.cc_meaning_program.specs.Members.{out_member}
use Rattle.cc_meaning_program.specs.Programs.{value_among, value_listed, field_within_class}
use Rattle.cc_meaning_program.specs.Resolved.{names_of, whole_name}
use Rattle.cc_meaning_program.proofs.Leading.{same_class, same_member}
use Rattle.cc_meaning_program.proofs.SameNames.{found_mapped}
use Rattle.cc_meaning_program.proofs.Splitting.{Leads}
use Rattle.cc_meaning_program.specs.declared.plan.FieldPlan.{FieldPlan}
use Rattle.cc_meaning_program.specs.declared.plan.FieldSource.{FieldSource}
use Rattle.cc_meaning_program.specs.Outlines.{definition_number}
use Rattle.cc_meaning_program.specs.OwnerNumbers.{field_in, field_placed}
use Rattle.cc_meaning_program.specs.Plans.{name_at, field_source_member, raw_field_member, field_plan_name, IsFieldSource, AreFieldPlans}
use Rattle.cc_meaning_program.specs.Rows.{FitTables}
use Rattle.cc_program.specs.Made.{values_in, values_at}
use Rattle.cc_program.specs.Parts.{HasParts}
use Rattle.cc_program.specs.Values.{listed_for, listed_at}
use Rattle.cc_program.proofs.Places.{Placed, placed, find_placed, position_is, is_same}
use Rattle.cc_program.proofs.InitialisersByName.{leads_at, class_name_is}

some_is : {A : Type 0} (x y : A) → Some x ≡ Some y → x ≡ y
some_is x y e = cc

-- ---- the values of a class of the file

module _ (ids : Ids) (raw : List RawClass) (sound : AreSound ids raw) (name : List ℕ) where
  -- a definition lists what the members of its class list
  pub values_are : (definition : Option ℕ) → definition ≡ definition_number ids name → values_at raw definition ≡ values_in (members_of ids raw name)
  unfolding values_at definition_number members_of
  values_are definition is = ap (λ d. values_in (option_and_then (slice_get raw) d)) is

  -- the number of the members
  numbered : (class : RawClass) → members_of ids raw name ≡ Some class → (number : ℕ) × (slice_get raw number ≡ Some class)
  unfolding members_of
  numbered class e = from (position (λ (stated : ClassRow). bytes_eq (type_name ids stated.class) name) ids.classes) e
    where
      from : (o : Option ℕ) → option_and_then (slice_get raw) o ≡ Some class → (number : ℕ) × (slice_get raw number ≡ Some class)
      from None e = absurd (cc)
      from (Some number) e = (number, e)

  -- the place of a field among those of its class is the first of its name
  at_place : (class : RawClass) (place : ℕ) (field : RawField) → members_of ids raw name ≡ Some class → slice_get class.fields place ≡ Some field → position (λ (other : RawField). bytes_eq (field_member ids other.row) (field_member ids field.row)) class.fields ≡ Some place
  at_place class place field are there =
      let number = numbered class are in
      position_is (λ (other : RawField). bytes_eq (field_member ids other.row) (field_member ids field.row)) class.fields place field there (is_same (field_member ids field.row) (field_member ids field.row) refl)
      (λ i other less at. earlier number.0 number.1 i other less at (bytes_eq (field_member ids other.row) (field_member ids field.row)) refl)
    where
      earlier : (number : ℕ) → slice_get raw number ≡ Some class → (i : ℕ) (other : RawField) → i < place → slice_get class.fields i ≡ Some other → (b : Bool) → bytes_eq (field_member ids other.row) (field_member ids field.row) ≡ b → b ≡ false
      earlier number is i other less at false e = refl
      earlier number is i other less at true e =
          absurd (sound.distinct number (IsDuplicate.of_field is (record { earlier = i; later = place; order = less; first = other; first_there = at; second = field; second_there = there; same = (bytes_eq-Decides (field_member ids other.row) (field_member ids field.row)).0 e })))

  listed_placed : (place : ℕ) (field : RawField) → field_placed ids raw name place ≡ Some field → value_among ids (field_member ids field.row) (members_of ids raw name) ≡ slice_get (values_in (members_of ids raw name)) place
  unfolding field_placed field_in value_among values_in
  listed_placed place field e = from (members_of ids raw name) refl e
    where
      from : (o : Option RawClass) → members_of ids raw name ≡ o → field_in place o ≡ Some field → value_among ids (field_member ids field.row) o ≡ slice_get (values_in o) place
      from None is e = absurd (cc)
      from (Some class) is e = ap (option_and_then (slice_get class.values)) (at_place class place field is e)

  listed_nowhere : (member : List ℕ) → field_defined ids raw name member ≡ None → value_among ids member (members_of ids raw name) ≡ None
  unfolding field_defined field_among value_among
  listed_nowhere member e = from (members_of ids raw name) e
    where
      from : (o : Option RawClass) → field_among ids member o ≡ None → value_among ids member o ≡ None
      from None e = refl
      from (Some class) e = at (position (λ (field : RawField). bytes_eq (field_member ids field.row) member) class.fields) refl
        where
          at : (o : Option ℕ) → position (λ (field : RawField). bytes_eq (field_member ids field.row) member) class.fields ≡ o → option_and_then (slice_get class.values) o ≡ None
          at None is = refl
          at (Some n) is =
              let there : Placed (λ (field : RawField). bytes_eq (field_member ids field.row) member) class.fields n = placed (λ (field : RawField). bytes_eq (field_member ids field.row) member) class.fields n is in
              absurd (let found : None ≡ Some there.item = sym e ∙ (find_placed (λ (field : RawField). bytes_eq (field_member ids field.row) member) class.fields ∙ (ap (option_and_then (slice_get class.fields)) is ∙ there.there)) in cc)

  -- what is listed for the name of a source within its class
  listed_by_source : (uses : List ℕ) (from : FieldSource) → IsFieldSource ids raw uses name from → value_among ids (field_source_member ids raw name from) (members_of ids raw name) ≡ listed_for (values_in (members_of ids raw name)) from
  unfolding field_source_member raw_field_member listed_for
  listed_by_source uses _ (IsFieldSource.file {place = place} {raw = field} there defined) = ap (λ o. value_among ids (raw_field_member ids o) (members_of ids raw name)) there ∙ listed_placed place field there
  listed_by_source uses _ (IsFieldSource.out owner undefined) = listed_nowhere out_member undefined
  listed_by_source uses _ (IsFieldSource.outside {row = row} other first undefined) = listed_nowhere (field_member ids row) undefined

-- ---- by the fields of the program

module _ (ids : Ids) (raw : List RawClass) (names : List (List ℕ)) (uses : List ℕ) (plans : List FieldPlan) (fields : List Field) (methods : List Method) (texts : List ℕ) (program : Program) (are : names_of program ≡ names) (tables : FitTables ids) (sound : AreSound ids raw) (named : AreClassNames ids names) (planned : AreFieldPlans ids raw names uses plans) (parts : HasParts ids raw names plans fields methods texts program) where
  whole_field : (field : Field) → field_name program field ≡ whole_name (class_name program field.class) (field_within_class program field)
  unfolding whole_name field_within_class
  whole_field field =
      append_assoc (class_name program field.class ++ codes "->" ++ field.name) (codes ":") (descriptor program field.ty)
      ∙ (append_assoc (class_name program field.class ++ codes "->") field.name (codes ":" ++ descriptor program field.ty) ∙ ap (λ xs. class_name program field.class ++ codes "->" ++ xs) (sym (append_assoc field.name (codes ":") (descriptor program field.ty))))

  plan_at : (number : ℕ) (field : Field) → slice_get program.fields number ≡ Some field → (plan : FieldPlan) × (slice_get plans number ≡ Some plan) × (field_plan_name ids raw names plan ≡ field_name program field)
  plan_at number field there =
      found_mapped (field_plan_name ids raw names) plans number (field_name program field) (ap (λ xs. slice_get xs number) (sym parts.field_names) ∙ (slice_get-map (field_name program) program.fields number ∙ ap (option_map_name) there))
    where
      option_map_name : Option Field → Option (List ℕ)
      option_map_name None = None
      option_map_name (Some f) = Some (field_name program f)

  pub listed_is : (n : ℕ) (name : List ℕ) (definition : Option ℕ) (number : ℕ) (field : Field) → slice_get names n ≡ Some name → definition ≡ definition_number ids name → slice_get program.fields number ≡ Some field → field.class ≡ n →
      value_listed ids raw program name (Some field) ≡ listed_at plans (values_at raw definition) number
  unfolding value_listed listed_at field_plan_name name_at
  listed_is n name definition number field there is at class =
      let plan = plan_at number field at in
      let owned = planned.owned number plan.0 plan.1 in
      let owner : name_at names plan.0.owner ≡ owned.0 = ap (λ o. unwrap_or o []) owned.1 in
      let mine : class_name program field.class ≡ name = ap (class_name program) class ∙ class_name_is program names are n name there in
      let full : whole_name owned.0 (field_source_member ids raw (name_at names plan.0.owner) plan.0.source) ≡ whole_name name (field_within_class program field) =
      ap (λ o. whole_name o (field_source_member ids raw (name_at names plan.0.owner) plan.0.source)) (sym owner) ∙ (plan.2 ∙ (whole_field field ∙ ap (λ c. whole_name c (field_within_class program field)) mine)) in
      let leads : Leads owned.0 = leads_at ids names tables named plan.0.owner owned.0 owned.1 in
      let also : Leads name = leads_at ids names tables named n name there in
      let same : owned.0 ≡ name = same_class owned.0 name (field_source_member ids raw (name_at names plan.0.owner) plan.0.source) (field_within_class program field) leads also full in
      let within : field_source_member ids raw (name_at names plan.0.owner) plan.0.source ≡ field_within_class program field = same_member owned.0 name (field_source_member ids raw (name_at names plan.0.owner) plan.0.source) (field_within_class program field) leads also full in
      let here : name_at names plan.0.owner ≡ name = owner ∙ same in
      let source : IsFieldSource ids raw uses name plan.0.source = subst (λ o. IsFieldSource ids raw uses o plan.0.source) here (planned.each number plan.0 plan.1) in
      ap (λ m. value_among ids m (members_of ids raw name)) (sym within ∙ ap (λ o. field_source_member ids raw o plan.0.source) here)
      ∙ (listed_by_source ids raw sound name uses plan.0.source source
      ∙ (ap (λ vs. listed_for vs plan.0.source) (sym (values_are ids raw sound name definition is)) ∙ ap (option_and_then (λ (p : FieldPlan). listed_for (values_at raw definition) p.source)) (sym plan.1)))
