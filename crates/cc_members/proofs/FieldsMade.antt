-- The fields that are made from plans are those of the program.
use Rattle.std.proofs.Common.{◌≡◌, Bool, true, ℕ, List, [], ◌++◌, length, Option, Some, None, refl, sym, ap, subst, ◌∙◌, arith}
use Rattle.std.specs.Prelude.{slice_get, slice_index_or, option_and_then, codes}
use Rattle.std.proofs.lemmas.Option.{slice_get_within, slice_get-get_or, get_or_from_slice_get}
use Rattle.cc_meaning.specs.declared.file.FieldRow.{FieldRow}
use Rattle.cc_meaning.specs.declared.file.Ids.{Ids}
use Rattle.cc_meaning.specs.declared.file.RawClass.{RawClass}
use Rattle.cc_meaning.specs.declared.file.RawField.{RawField}
use Rattle.cc_meaning.specs.declared.program.Base.TheVariants as base
use Rattle.cc_meaning.specs.declared.program.DexType.{DexType}
use Rattle.cc_meaning.specs.declared.program.Field.{Field}
use Rattle.cc_meaning.specs.declared.program.Program.{Program}
use Rattle.cc_meaning.specs.BuiltIn.{built_in_classes, built_in_plain_classes, object_name, string_name, string_builder_name, system_name, print_stream_name, out_name}
use Rattle.cc_meaning.specs.Names.{field_name}
use Rattle.cc_meaning_dex.specs.Descriptors.{names_class}
use Rattle.cc_meaning_program.specs.declared.reference.Reference.TheVariants as reference
use Rattle.cc_meaning_program.specs.BodyFaults.{HaveSoundBodies}
use Rattle.cc_meaning_program.specs.ClassNames.{AreClassNames, IsClassName}
use Rattle.cc_meaning_program.specs.Instructions.{StandToEnd}
use Rattle.cc_meaning_program.specs.Named.{text_of, type_name, field_within, field_member}
use Rattle.cc_meaning_program.specs.References.{FieldFloats}
use Rattle.cc_meaning_program.specs.TypeNames.{base_spelled, type_spelled, Spells, ListedTypesSpelled}
use Rattle.cc_meaning_program.specs.OwnMembers.{field_defined}
use Rattle.cc_meaning_program.specs.Members.{out_member, FieldIsNamedBy, IsField}
use Rattle.cc_meaning_program.specs.Naming.{RowNamesField}
use Rattle.cc_meaning_program.specs.Resolved.{names_of, whole_name}
use Rattle.cc_meaning_program.specs.Searches.{First}
use Rattle.cc_meaning_program.specs.Outlines.{AreOutlines}
use Rattle.cc_meaning_program.specs.OwnerNumbers.{field_in, field_placed}
use Rattle.cc_meaning_program.specs.Plans.{name_at, raw_field_member, field_source_member, field_plan_name, IsFieldSource}
use Rattle.cc_meaning_program.specs.Rows.{FitTables, FitClasses}
use Rattle.cc_meaning_program.specs.declared.outline.Outline.{Outline}
use Rattle.cc_meaning_program.specs.declared.plan.FieldPlan.{FieldPlan}
use Rattle.cc_meaning_program.specs.declared.plan.FieldSource.{FieldSource}
use Rattle.cc_names.specs.Types.{AreTypesOf}
use Rattle.cc_members.specs.FieldPremises.{PlanFields, HaveFieldNames, IsPlannedField, ArePlannedFields}
use Rattle.cc_members.specs.MadeFields.{FieldCanBeMade, FieldOfRow, FieldMade}
use Rattle.cc_members.specs.Made.{EachMade}
use Rattle.cc_members.specs.Stated.{definition_at, members_at, FieldRowStands}
use Rattle.cc_members.proofs.FirstUse.{first_field, first_is_among, first_is_so}
use Rattle.cc_members.proofs.Sound.{field_is_plain, in_classes, named_is_plain}
use Rattle.cc_members.proofs.Typed.{item_there, row_typed}
use Rattle.cc_members.proofs.ByNumber.{members_same, name_there, field_named}
use Rattle.cc_members.proofs.MadeOneByOne.{all_named}

-- a row of fields that isn't of floating point stands
row_stands : ListedTypesSpelled → (ids : Ids) (names : List (List ℕ)) (types : List (Option DexType)) (row : ℕ) (stated : FieldRow) → FitTables ids → AreClassNames ids names → AreTypesOf names (length ids.types) (type_name ids) types →
    slice_get ids.fields row ≡ Some stated → ¬ FieldFloats ids row → FieldRowStands ids types row
row_stands spelled ids names types row stated tables are_names are there plain =
    let fits = tables.fields row stated there in
    let (ty, typed) = row_typed spelled ids names types stated.kind tables are_names are fits.kind (λ floats. plain (FieldFloats.by_kind there floats)) in
    record { stated = stated; there = there; name = fits.name; ty = ty; typed = typed }

-- the definition of a class and the field in it
pub record FieldStands (classes : List RawClass) (place : ℕ) (raw : RawField) : Type 0 where
  pub number : ℕ
  pub class : RawClass
  pub there : slice_get classes number ≡ Some class
  pub stands : slice_get class.fields place ≡ Some raw

field_stands : (classes : List RawClass) (outlines : List Outline) (owner place : ℕ) (raw : RawField) → field_in place (members_at classes outlines owner) ≡ Some raw → FieldStands classes place raw
unfolding field_in
field_stands classes outlines owner place raw is = from (definition_at outlines owner) is
  where
    of_class : (number : ℕ) (class : Option RawClass) → slice_get classes number ≡ class → field_in place class ≡ Some raw → FieldStands classes place raw
    of_class number None there is = absurd (cc)
    of_class number (Some class) there is = record { number = number; class = class; there = there; stands = is }

    from : (definition : Option ℕ) → field_in place (option_and_then (slice_get classes) definition) ≡ Some raw → FieldStands classes place raw
    from None is = absurd (cc)
    from (Some number) is = of_class number (slice_get classes number) refl is

-- a field of the file stands by its row
raw_stands : ListedTypesSpelled → (ids : Ids) (classes : List RawClass) (names : List (List ℕ)) (types : List (Option DexType)) (place : ℕ) (raw : RawField) → FitTables ids → FitClasses ids classes → HaveSoundBodies ids classes → AreClassNames ids names →
    AreTypesOf names (length ids.types) (type_name ids) types → FieldStands classes place raw → FieldRowStands ids types raw.row
raw_stands spelled ids classes names types place raw tables fit sound are_names are stands =
    let (stated, defined) = item_there ids.classes stands.number (omega (arith, fit.whole, slice_get_within classes stands.number stands.class stands.there)) in
    let fits = fit.members stands.number stated stands.class defined stands.there in
    let of = fits.fields raw (place, slice_get_within stands.class.fields place raw stands.stands, get_or_from_slice_get stands.class.fields place raw raw stands.stands) in
    row_stands spelled ids names types raw.row of.stated tables are_names are of.there (field_is_plain ids classes stands.number stands.class place raw sound stands.there stands.stands)

-- a type spells the class of `System.out`
print_stream_spelled : (ids : Ids) (names : List (List ℕ)) → AreClassNames ids names → (ty : DexType) × Spells names ty print_stream_name
unfolding base_spelled type_spelled built_in_classes built_in_plain_classes object_name string_name string_builder_name system_name print_stream_name
print_stream_spelled ids names are =
    let (number, within, is) = (are.are print_stream_name).1 (IsClassName.built_in {name = print_stream_name} refl) in
    let at : slice_index_or names number [] ≡ print_stream_name = get_or_from_slice_get names number print_stream_name [] (slice_get-get_or names number print_stream_name within ∙ ap Some is) in
    (record { dims = 0; base = base.Class number }, record { spelled = at; based = subst (λ n. names_class n ≡ true) (sym at) refl; few = omega arith })

module _ (spelled : ListedTypesSpelled) (ends : StandToEnd) (ids : Ids) (classes : List RawClass) (names : List (List ℕ)) (outlines : List Outline) (types : List (Option DexType)) (tables : FitTables ids) (fit : FitClasses ids classes) (sound : HaveSoundBodies ids classes) (are_names : AreClassNames ids names) (are_outlines : AreOutlines ids names outlines) (are : AreTypesOf names (length ids.types) (type_name ids) types) where
  -- what a plan is made from is there
  pub can_be_made : (plans : List FieldPlan) → PlanFields ids classes names plans → (number : ℕ) (plan : FieldPlan) → slice_get plans number ≡ Some plan → FieldCanBeMade ids classes names outlines types plan.owner plan.source
  unfolding field_placed
  can_be_made plans of number plan there = made plan.source (of.planned.each number plan there)
    where
      here : slice_get names plan.owner ≡ Some (name_at names plan.owner)
      here = let (name, is) = of.planned.owned number plan there in name_there names plan.owner name is

      made : (source : FieldSource) → IsFieldSource ids classes of.fields (name_at names plan.owner) source → FieldCanBeMade ids classes names outlines types plan.owner source
      made _ (IsFieldSource.file {place = place} {raw = raw} placed defined) =
          let at : field_in place (members_at classes outlines plan.owner) ≡ Some raw = ap (field_in place) (members_same ids classes names outlines are_outlines plan.owner (name_at names plan.owner) here) ∙ placed in
          (raw, at, raw_stands spelled ids classes names types place raw tables fit sound are_names are (field_stands classes outlines plan.owner place raw at))
      made _ (IsFieldSource.out system none) = print_stream_spelled ids names are_names
      made _ (IsFieldSource.outside {row = row} other first none) =
          let named = first_field ids classes (name_at names plan.owner) (field_member ids row) of.uses.instructions row
          (subst (λ uses. First (λ (other : ℕ). RowNamesField ids classes other (name_at names plan.owner) (field_member ids row)) uses row) of.uses.of_fields first) in
          let insn = in_classes ends ids classes of.uses.instructions named.placed sound of.uses.are (first_is_among of.uses.instructions named.placed named.first) in
          let names_it = first_is_so of.fields row first in
          row_stands spelled ids names types row names_it.stated tables are_names are names_it.there (named_is_plain ids named.placed (reference.Field row) insn named.refers)

  module _ (program : Program) (same : names_of program ≡ names) where
    -- a field of a row's name and type
    named_by_row : (owner row : ℕ) (is_static : Bool) (field : Field) → FieldOfRow ids types owner row is_static field → FieldIsNamedBy ids program row field
    named_by_row owner row is_static field of = record {
      stated = of.stated;
      there = of.there;
      name = of.name;
      ty = subst (λ (ns : List (List ℕ)). Spells ns field.ty (type_name ids of.stated.kind)) (sym same) (are.each of.stated.kind (Some field.ty) of.ty);
    }

    -- what is made from a plan is its field
    is_planned : (plans : List FieldPlan) → PlanFields ids classes names plans → (number : ℕ) (plan : FieldPlan) (field : Field) → slice_get plans number ≡ Some plan → FieldMade ids classes names outlines types plan.owner plan.source field →
        IsPlannedField ids classes names program plan field
    unfolding field_placed raw_field_member field_source_member
    is_planned plans of number plan field there made = let (owned, is) = from_source plan.source (of.planned.each number plan there) made in record { class = owned; is = is }
      where
        here : slice_get names plan.owner ≡ Some (name_at names plan.owner)
        here = let (name, is) = of.planned.owned number plan there in name_there names plan.owner name is

        from_source : (source : FieldSource) → IsFieldSource ids classes of.fields (name_at names plan.owner) source → FieldMade ids classes names outlines types plan.owner source field →
            (field.class ≡ plan.owner) × IsField ids classes program (name_at names plan.owner) (field_source_member ids classes (name_at names plan.owner) source) field
        from_source _ (IsFieldSource.file {place = place} {raw = raw} placed defined) (found, at, made) =
            let class = name_at names plan.owner in
            let placed_at : field_in place (members_at classes outlines plan.owner) ≡ Some raw = ap (field_in place) (members_same ids classes names outlines are_outlines plan.owner class here) ∙ placed in
            let one : found ≡ raw = let e : Some found ≡ Some raw = sym at ∙ placed_at in cc in
            let member : raw_field_member ids (field_placed ids classes class place) ≡ field_member ids raw.row = ap (raw_field_member ids) placed in (
              made.class,
              IsField.defined {raw = raw} (ap (field_defined ids classes class) member ∙ defined)
                  (subst (λ (r : RawField). FieldIsNamedBy ids program r.row field) one (named_by_row plan.owner found.row found.is_static field made))
                  (made.static ∙ ap (λ (r : RawField). r.is_static) one),
            )
        from_source _ (IsFieldSource.out system none) made =
            (made.class, IsField.out system refl none made.name (subst (λ (ns : List (List ℕ)). Spells ns field.ty print_stream_name) (sym same) made.ty) made.static)
        from_source _ (IsFieldSource.outside {row = row} other first none) made =
            let class = name_at names plan.owner in
            let named = first_field ids classes class (field_member ids row) of.uses.instructions row
            (subst (λ uses. First (λ (other : ℕ). RowNamesField ids classes other class (field_member ids row)) uses row) of.uses.of_fields first) in
            (made.class, IsField.outside other none of.uses.are named.first named.refers (named_by_row plan.owner row true field made) made.static)

    row_named : (owner row : ℕ) (is_static : Bool) (field : Field) → FieldOfRow ids types owner row is_static field → field_name program field ≡ whole_name (name_at names owner) (field_member ids row)
    unfolding field_member field_within
    row_named owner row is_static field of =
        field_named program names same field (text_of ids of.stated.name) (type_name ids of.stated.kind) of.name (are.each of.stated.kind (Some field.ty) of.ty)
        ∙ (ap (λ (n : ℕ). whole_name (name_at names n) (text_of ids of.stated.name ++ codes ":" ++ type_name ids of.stated.kind)) of.class
        ∙ ap (λ (o : Option FieldRow). whole_name (name_at names owner) (field_within ids o)) (sym of.there))

    -- and has its name
    planned_name : (plans : List FieldPlan) → PlanFields ids classes names plans → (number : ℕ) (plan : FieldPlan) (field : Field) → slice_get plans number ≡ Some plan → FieldMade ids classes names outlines types plan.owner plan.source field →
        field_name program field ≡ field_plan_name ids classes names plan
    unfolding field_placed raw_field_member field_source_member field_plan_name out_member
    planned_name plans of number plan field there made = from_source plan.source (of.planned.each number plan there) made
      where
        here : slice_get names plan.owner ≡ Some (name_at names plan.owner)
        here = let (name, is) = of.planned.owned number plan there in name_there names plan.owner name is

        from_source : (source : FieldSource) → IsFieldSource ids classes of.fields (name_at names plan.owner) source → FieldMade ids classes names outlines types plan.owner source field →
            field_name program field ≡ whole_name (name_at names plan.owner) (field_source_member ids classes (name_at names plan.owner) source)
        from_source _ (IsFieldSource.file {place = place} {raw = raw} placed defined) (found, at, made) =
            let class = name_at names plan.owner in
            let members = ap (field_in place) (members_same ids classes names outlines are_outlines plan.owner class here) in
            row_named plan.owner found.row found.is_static field made ∙ ap (λ (o : Option RawField). whole_name class (raw_field_member ids o)) (sym at ∙ members)
        from_source _ (IsFieldSource.out system none) made =
            field_named program names same field out_name print_stream_name made.name made.ty
            ∙ ap (λ (n : ℕ). whole_name (name_at names n) (out_name ++ codes ":" ++ print_stream_name)) made.class
        from_source _ (IsFieldSource.outside {row = row} other first none) made = row_named plan.owner row true field made

  abbrev IsMade : FieldPlan → Field → Type 0
  IsMade plan field = FieldMade ids classes names outlines types plan.owner plan.source field

  pub have_names : (plans : List FieldPlan) (fields : List Field) → PlanFields ids classes names plans → EachMade IsMade plans fields (length plans) → HaveFieldNames ids classes names plans fields
  have_names plans fields of made program same =
      all_named IsMade plans fields (field_plan_name ids classes names) (field_name program) made (planned_name program same plans of)

  pub are_planned : (plans : List FieldPlan) (fields : List Field) → PlanFields ids classes names plans → EachMade IsMade plans fields (length plans) → ArePlannedFields ids classes names plans fields
  are_planned plans fields of made program same number plan field planned there = is_planned program same plans of number plan field planned (made.each number plan field planned there)
