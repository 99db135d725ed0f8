-- The fields of a program, once those that the file defines, `System.out`, and those that rows name are put in order.
use Rattle.std.proofs.Common.{◌≡◌, ◌≢◌, ◌⊎◌, ◌↔◌, inl, inr, ℕ, ◌<◌, ◌≤◌, List, [], ◌∷◌, ◌++◌, length, map, get_or, Option, Some, None, slice_get, refl, sym, ap, subst, ◌∙◌, arith}
use Rattle.std.specs.Prelude.{Contains}
use Rattle.std.specs.List.{flat_map}
use Rattle.std.proofs.lemmas.List.Elements.{Contains-append_left, Contains-append_right, Contains-append_cases, Contains-push, Contains-push_cases}
use Rattle.std.proofs.lemmas.Option.{slice_get_within, slice_get_cases}
use Rattle.cc_meaning.specs.declared.file.Ids.{Ids}
use Rattle.cc_meaning.specs.declared.file.RawClass.{RawClass}
use Rattle.cc_meaning.specs.declared.file.RawField.{RawField}
use Rattle.cc_meaning.specs.declared.program.Placed.{Placed}
use Rattle.cc_meaning.specs.BuiltIn.{system_name}
use Rattle.cc_meaning_program.specs.ClassFaults.{AreSound}
use Rattle.cc_meaning_program.specs.ClassNames.{AreClassNames, IsClassName}
use Rattle.cc_meaning_program.specs.Instructions.{OneReading}
use Rattle.cc_meaning_program.specs.Named.{type_name, field_member}
use Rattle.cc_meaning_program.specs.OwnMembers.{members_of, field_defined}
use Rattle.cc_meaning_program.specs.Laws.{OneFieldOwner}
use Rattle.cc_meaning_program.specs.Members.{BelongsField, out_member}
use Rattle.cc_meaning_program.specs.Owners.{FieldOwner as OwnsField}
use Rattle.cc_meaning_program.specs.Naming.{RowNamesField}
use Rattle.cc_meaning_program.specs.Resolved.{whole_name}
use Rattle.cc_meaning_program.specs.Searches.{First}
use Rattle.cc_meaning_program.proofs.SameMembers.{classes_once}
use Rattle.cc_meaning_program.specs.declared.owner.FieldOwner.{FieldOwner}
use Rattle.cc_meaning_program.specs.declared.owner.FieldOwner.TheVariants as field
use Rattle.cc_meaning_program.specs.declared.plan.FieldPlan.{FieldPlan}
use Rattle.cc_meaning_program.specs.declared.plan.FieldSource.{FieldSource}
use Rattle.cc_meaning_program.specs.declared.plan.FieldSource.TheVariants as from_field
use Rattle.cc_meaning_program.specs.declared.uses.MethodUse.{MethodUse}
use Rattle.cc_meaning_program.specs.OwnerNumbers.{AreFieldOwners, IsFieldOwner, field_placed}
use Rattle.cc_meaning_program.specs.Plans.{AreFieldPlans, IsFieldSource, name_at, field_plan_name, field_source_member, raw_field_member}
use Rattle.cc_meaning_program.specs.Rows.{FitTables}
use Rattle.cc_meaning_program.specs.Uses.{AreUses, field_use_of, field_uses_of}
use Rattle.cc_names.specs.InOrder.{AreInOrder}
use Rattle.cc_members.specs.Candidates.{IsOwnField, IsOwnFieldBelow, IsOut, file_field, field_count, beyond_field, beyond_fields}
use Rattle.cc_members.specs.FirstInOrder.{AreFirst}
use Rattle.cc_members.proofs.Defined.{some_is, definition_from, defined_is_class, field_defined_at, field_placed_at, field_at, no_field_of_system}
use Rattle.cc_members.proofs.MethodPlanning.{contains_at, at_contained, in_filter_map, filter_map_from, in_flat_map, first_of_two, Makes, first_maker, first_as}
use Rattle.cc_members.proofs.Outlined.{there_at, name_there}
use Rattle.cc_members.proofs.UsedRows.{field_used}

module _ (ids : Ids) (classes : List RawClass) (names : List (List ℕ)) (owners : List FieldOwner) (methods : List MethodUse) (uses : List ℕ)
    (fit : FitTables ids) (sound : AreSound ids classes) (class_names : AreClassNames ids names) (are_owners : AreFieldOwners ids classes names owners) (are_uses : AreUses classes methods uses)
    (one_owner : OneFieldOwner) (reading : OneReading) where
  abbrev plan_name : FieldPlan → List ℕ
  plan_name = field_plan_name ids classes names

  -- a class of the program has a number
  number_of : (name : List ℕ) → IsClassName ids name → (number : ℕ) × (number < length names) × (slice_get names number ≡ Some name)
  number_of name is =
      let (number, there) = at_contained names name ((class_names.are name).1 is) in
      (number, slice_get_within names number name there, there)

  -- ---- what the file defines

  file_source : (name : List ℕ) (place : ℕ) → place < field_count (members_of ids classes name) → IsFieldSource ids classes uses name (from_field.File place)
  unfolding field_count
  file_source name place within = by_class (members_of ids classes name) refl within
    where
      by_class : (o : Option RawClass) → members_of ids classes name ≡ o → place < field_count o → IsFieldSource ids classes uses name (from_field.File place)
      by_class None is less = absurd (omega arith)
      by_class (Some class) is less = at_place (slice_get_cases class.fields place).1
        where
          at_place : ((raw : RawField) × (place < length class.fields) × (slice_get class.fields place ≡ Some raw) × (get_or class.fields place raw ≡ raw)) ⊎ ((length class.fields ≤ place) × (slice_get class.fields place ≡ None)) → IsFieldSource ids classes uses name (from_field.File place)
          at_place (inl (raw, inside, there, same)) = IsFieldSource.file (field_placed_at ids classes name class place is ∙ there) (field_defined_at ids classes name class place raw sound is there)
          at_place (inr (past, none)) = absurd (omega arith)

  own_source : (owner : ℕ) (plan : FieldPlan) → IsOwnField ids classes names owner plan → (plan.owner ≡ owner) × IsFieldSource ids classes uses (name_at names plan.owner) plan.source
  unfolding file_field
  own_source owner plan (place, within, is) = subst (λ (p : FieldPlan). (p.owner ≡ owner) × IsFieldSource ids classes uses (name_at names p.owner) p.source) is (refl, file_source (name_at names owner) place within)

  -- ---- `System.out`

  out_source : (plan : FieldPlan) → IsOut names plan → IsFieldSource ids classes uses (name_at names plan.owner) plan.source
  out_source plan out =
      let same = name_there names plan.owner system_name out.owner in
      let is : IsFieldSource ids classes uses (name_at names plan.owner) from_field.Out = IsFieldSource.out same (ap (λ (n : List ℕ). field_defined ids classes n out_member) same ∙ no_field_of_system ids classes out_member sound) in
      subst (IsFieldSource ids classes uses (name_at names plan.owner)) (sym out.source) is

  out_plan_name : (plan : FieldPlan) → IsOut names plan → plan_name plan ≡ whole_name system_name out_member
  unfolding field_plan_name field_source_member
  out_plan_name plan out =
      ap (λ (n : List ℕ). whole_name n (field_source_member ids classes n plan.source)) (name_there names plan.owner system_name out.owner) ∙ ap (λ (s : FieldSource). whole_name system_name (field_source_member ids classes system_name s)) out.source

  -- ---- what rows name

  -- a row that names a field has an owner
  owner_of : (row : ℕ) (owner member : List ℕ) → RowNamesField ids classes row owner member → (o : FieldOwner) × (slice_get owners row ≡ Some o) × IsFieldOwner ids classes names row o
  owner_of row owner member named = at_row (slice_get_cases owners row).1
    where
      within : row < length owners
      within = let less = slice_get_within ids.fields row named.stated named.there in omega (arith, less, are_owners.all)

      at_row : ((o : FieldOwner) × (row < length owners) × (slice_get owners row ≡ Some o) × (get_or owners row o ≡ o)) ⊎ ((length owners ≤ row) × (slice_get owners row ≡ None)) → (o : FieldOwner) × (slice_get owners row ≡ Some o) × IsFieldOwner ids classes names row o
      at_row (inl (o, inside, there, same)) = (o, there, are_owners.each row o there)
      at_row (inr (past, none)) = absurd (omega (arith, within, past))

  same_owner_of : (row : ℕ) (this that member other : List ℕ) → RowNamesField ids classes row this member → RowNamesField ids classes row that other → (this ≡ that) × (member ≡ other)
  same_owner_of row this that member other one two =
      let stated : one.stated ≡ two.stated = some_is one.stated two.stated (sym one.there ∙ two.there) in
      let members : member ≡ other = sym one.within ∙ two.within in
      let moved = subst (λ (n : List ℕ). OwnsField ids classes (type_name ids one.stated.class) n this) members one.owned in
      (one_owner ids classes (type_name ids two.stated.class) other this that (subst (λ row_stated. OwnsField ids classes (type_name ids row_stated.class) other this) stated moved) two.owned, members)

  -- a used row that names a field of no class of the file
  outside_source : (row : ℕ) (plan : FieldPlan) → beyond_field (slice_get owners row) row ≡ Some plan →
      (name : List ℕ) × (slice_get names plan.owner ≡ Some name) × (plan.source ≡ from_field.Outside row) × RowNamesField ids classes row name (field_member ids row)
      × (field_defined ids classes name (field_member ids row) ≡ None)
  unfolding beyond_field
  outside_source row plan e = by_owner (slice_get owners row) refl e
    where
      by_owner : (o : Option FieldOwner) → slice_get owners row ≡ o → beyond_field o row ≡ Some plan →
          (name : List ℕ) × (slice_get names plan.owner ≡ Some name) × (plan.source ≡ from_field.Outside row) × RowNamesField ids classes row name (field_member ids row)
          × (field_defined ids classes name (field_member ids row) ≡ None)
      by_owner None is made = absurd (cc)
      by_owner (Some (field.File class place)) is made = absurd (cc)
      by_owner (Some (field.Beyond class)) is made = told (are_owners.each row (field.Beyond class) is)
        where
          told : IsFieldOwner ids classes names row (field.Beyond class) →
              (name : List ℕ) × (slice_get names plan.owner ≡ Some name) × (plan.source ≡ from_field.Outside row) × RowNamesField ids classes row name (field_member ids row)
              × (field_defined ids classes name (field_member ids row) ≡ None)
          told (IsFieldOwner.beyond {name = name} there named undefined) =
              let same : record { owner = class; source = from_field.Outside row } ≡ plan = some_is _ plan made in
              (name, subst (λ (p : FieldPlan). slice_get names p.owner ≡ Some name) same there, sym (ap (λ (p : FieldPlan). p.source) same), named, undefined)

  -- ---- all of them

  module _ (own all : List FieldPlan) (out : FieldPlan) (owned : (plan : FieldPlan) → Contains own plan ↔ IsOwnFieldBelow ids classes names (length names) plan) (is_out : IsOut names out)
      (are_all : all ≡ (own ++ out ∷ []) ++ beyond_fields owners uses) where
    abbrev known : List FieldPlan
    known = own ++ out ∷ []

    own_there : (plan : FieldPlan) → IsOwnFieldBelow ids classes names (length names) plan → plan.owner < length names
    own_there plan (owner, less, is) = let e = (own_source owner plan is).0 in omega (arith, e, less)

    known_there : (plan : FieldPlan) → Contains known plan → plan.owner < length names
    known_there plan there = cases (Contains-push_cases own out plan there)
      where
        cases : Contains own plan ⊎ (out ≡ plan) → plan.owner < length names
        cases (inl here) = own_there plan ((owned plan).0 here)
        cases (inr is) = subst (λ (p : FieldPlan). p.owner < length names) is (slice_get_within names out.owner system_name is_out.owner)

    known_source : (plan : FieldPlan) → Contains known plan → IsFieldSource ids classes uses (name_at names plan.owner) plan.source
    known_source plan there = cases (Contains-push_cases own out plan there)
      where
        cases : Contains own plan ⊎ (out ≡ plan) → IsFieldSource ids classes uses (name_at names plan.owner) plan.source
        cases (inl here) = let (owner, less, is) = (owned plan).0 here in (own_source owner plan is).1
        cases (inr is) = subst (λ (p : FieldPlan). IsFieldSource ids classes uses (name_at names p.owner) p.source) is (out_source out is_out)

    outside_from : (plan : FieldPlan) → Contains (beyond_fields owners uses) plan → (row : ℕ) × (beyond_field (slice_get owners row) row ≡ Some plan)
    unfolding beyond_fields
    outside_from plan there = filter_map_from (λ (row : ℕ). beyond_field (slice_get owners row) row) uses plan there

    pub all_there : (plan : FieldPlan) → Contains all plan → plan.owner < length names
    all_there plan there = cases (Contains-append_cases known (beyond_fields owners uses) plan (subst (λ plans. Contains plans plan) are_all there))
      where
        cases : Contains known plan ⊎ Contains (beyond_fields owners uses) plan → plan.owner < length names
        cases (inl here) = known_there plan here
        cases (inr here) =
            let (row, made) = outside_from plan here in
            let (name, at, source, named, undefined) = outside_source row plan made in
            slice_get_within names plan.owner name at

    own_in_all : (plan : FieldPlan) → IsOwnFieldBelow ids classes names (length names) plan → Contains all plan
    own_in_all plan below = subst (λ plans. Contains plans plan) (sym are_all) (Contains-append_left known (beyond_fields owners uses) plan (Contains-append_left own (out ∷ []) plan ((owned plan).1 below)))

    outside_name : (plan : FieldPlan) (row : ℕ) (name : List ℕ) → slice_get names plan.owner ≡ Some name → plan.source ≡ from_field.Outside row → plan_name plan ≡ whole_name name (field_member ids row)
    unfolding field_plan_name field_source_member
    outside_name plan row name at source =
        ap (λ (n : List ℕ). whole_name n (field_source_member ids classes n plan.source)) (name_there names plan.owner name at) ∙ ap (λ (s : FieldSource). whole_name name (field_source_member ids classes name s)) source

    -- ---- where each comes from

    first_use : (row : ℕ) (plan : FieldPlan) (name : List ℕ) → First (Makes (λ (other : ℕ). beyond_field (slice_get owners other) other) (λ (other : FieldPlan). plan_name other ≡ plan_name plan)) uses row →
        slice_get names plan.owner ≡ Some name → plan.source ≡ from_field.Outside row → RowNamesField ids classes row name (field_member ids row) →
        field_defined ids classes name (field_member ids row) ≡ None → First (λ (other : ℕ). RowNamesField ids classes other name (field_member ids row)) uses row
    unfolding beyond_field
    first_use row plan name first at source named undefined = first_as uses row first named part
      where
        member : List ℕ
        member = field_member ids row

        by_owner : (other : ℕ) (o : FieldOwner) → RowNamesField ids classes other name member → slice_get owners other ≡ Some o → IsFieldOwner ids classes names other o →
            Makes (λ (used : ℕ). beyond_field (slice_get owners used) used) (λ (made : FieldPlan). plan_name made ≡ plan_name plan) other
        by_owner other _ also there (IsFieldOwner.file {name = n} {raw = raw} here this defined placed) =
            let (names_same, members_same) = same_owner_of other n name (field_member ids other) member this also in
            absurd (let e : None ≡ Some raw = sym undefined ∙ (sym (ap (λ (m : List ℕ). field_defined ids classes name m) members_same) ∙ (sym (ap (λ (k : List ℕ). field_defined ids classes k (field_member ids other)) names_same) ∙ defined)) in cc)
        by_owner other _ also there (IsFieldOwner.beyond {class = class} {name = n} here this none) =
            let (names_same, members_same) = same_owner_of other n name (field_member ids other) member this also in
            let made : FieldPlan = record { owner = class; source = from_field.Outside other } in
            record {
              made = made;
              makes = ap (λ (o : Option FieldOwner). beyond_field o other) there;
              so = outside_name made other n here refl ∙ (ap (λ (k : List ℕ). whole_name k (field_member ids other)) names_same ∙ (ap (whole_name name) members_same ∙ sym (outside_name plan row name at source)));
            }

        part : (other : ℕ) → RowNamesField ids classes other name member → Makes (λ (used : ℕ). beyond_field (slice_get owners used) used) (λ (made : FieldPlan). plan_name made ≡ plan_name plan) other
        part other also = let (o, there, is) = owner_of other name member also in by_owner other o also there is

    each_source : (plan : FieldPlan) → First (λ (other : FieldPlan). plan_name other ≡ plan_name plan) all plan → IsFieldSource ids classes uses (name_at names plan.owner) plan.source
    unfolding beyond_fields
    each_source plan first = cases (first_of_two known (beyond_fields owners uses) plan (subst (λ plans. First (λ (other : FieldPlan). plan_name other ≡ plan_name plan) plans plan) are_all first))
      where
        not_out : (row : ℕ) (name : List ℕ) → slice_get names plan.owner ≡ Some name → plan.source ≡ from_field.Outside row → ((other : FieldPlan) → Contains known other → ¬ (plan_name other ≡ plan_name plan)) →
            field_member ids row ≡ out_member → name ≢ system_name
        not_out row name at source none is_out_member is_system =
            none out (Contains-push own out)
            (out_plan_name out is_out ∙ (ap (λ (n : List ℕ). whole_name n out_member) (sym is_system) ∙ (ap (whole_name name) (sym is_out_member) ∙ sym (outside_name plan row name at source))))

        cases : Contains known plan ⊎ (((other : FieldPlan) → Contains known other → ¬ (plan_name other ≡ plan_name plan)) × First (λ (other : FieldPlan). plan_name other ≡ plan_name plan) (beyond_fields owners uses) plan) →
            IsFieldSource ids classes uses (name_at names plan.owner) plan.source
        cases (inl here) = known_source plan here
        cases (inr (none, behind)) =
            let (row, made_first, made) = first_maker (λ (row : ℕ). beyond_field (slice_get owners row) row) uses plan behind in
            let (name, at, source, named, undefined) = outside_source row plan made in
            let is = IsFieldSource.outside (not_out row name at source none) (first_use row plan name made_first at source named undefined) undefined in
            subst (λ (n : List ℕ). IsFieldSource ids classes uses n plan.source) (sym (name_there names plan.owner name at)) (subst (λ (s : FieldSource). IsFieldSource ids classes uses name s) (sym source) is)

    -- ---- all are there

    abbrev IsThere : List ℕ → List ℕ → Type 0
    IsThere owner member = (plan : FieldPlan) × Contains all plan × (plan_name plan ≡ whole_name owner member)

    defined_there : (owner member : List ℕ) (raw : RawField) → field_defined ids classes owner member ≡ Some raw → IsThere owner member
    unfolding field_count file_field field_plan_name field_source_member raw_field_member
    defined_there owner member raw e =
        let at = field_at ids classes owner member raw e in
        let d = definition_from ids classes owner at.class at.members in
        let (number, less, there) = number_of owner (defined_is_class ids d.number owner fit d.defines) in
        let same = name_there names number owner there in
        let count : field_count (members_of ids classes (name_at names number)) ≡ length at.class.fields = ap (λ (n : List ℕ). field_count (members_of ids classes n)) same ∙ ap field_count at.members in
        let within : at.place < field_count (members_of ids classes (name_at names number)) = let inside = slice_get_within at.class.fields at.place raw at.there in omega (arith, inside, count) in
        let placed = field_placed_at ids classes owner at.class at.place at.members ∙ at.there in (
          file_field number at.place,
          own_in_all (file_field number at.place) (number, less, (at.place, within, refl)),
          ap (λ (n : List ℕ). whole_name n (raw_field_member ids (field_placed ids classes n at.place))) same ∙ (ap (λ (o : Option RawField). whole_name owner (raw_field_member ids o)) placed ∙ ap (whole_name owner) at.named),
        )

    out_there : (owner member : List ℕ) → owner ≡ system_name → member ≡ out_member → IsThere owner member
    out_there owner member is_system is_out_member = (
      out,
      subst (λ plans. Contains plans out) (sym are_all) (Contains-append_left known (beyond_fields owners uses) out (Contains-push own out)),
      out_plan_name out is_out ∙ (ap (λ (n : List ℕ). whole_name n out_member) (sym is_system) ∙ ap (whole_name owner) (sym is_out_member)),
    )

    used_there : (row : ℕ) (owner member : List ℕ) → Contains uses row → RowNamesField ids classes row owner member → IsThere owner member
    unfolding beyond_field beyond_fields
    used_there row owner member in_uses named = let (o, there, is) = owner_of row owner member named in by_owner o there is
      where
        by_owner : (o : FieldOwner) → slice_get owners row ≡ Some o → IsFieldOwner ids classes names row o → IsThere owner member
        by_owner _ there (IsFieldOwner.file {name = n} {raw = raw} here this defined placed) =
            let (names_same, members_same) = same_owner_of row n owner (field_member ids row) member this named in
            defined_there owner member raw (subst (λ (m : List ℕ). field_defined ids classes owner m ≡ Some raw) members_same (subst (λ (k : List ℕ). field_defined ids classes k (field_member ids row) ≡ Some raw) names_same defined))
        by_owner _ there (IsFieldOwner.beyond {class = class} {name = n} here this none) =
            let (names_same, members_same) = same_owner_of row n owner (field_member ids row) member this named in
            let made : FieldPlan = record { owner = class; source = from_field.Outside row } in
            let makes : beyond_field (slice_get owners row) row ≡ Some made = ap (λ (o : Option FieldOwner). beyond_field o row) there in
            let among = in_filter_map (λ (used : ℕ). beyond_field (slice_get owners used) used) uses row made in_uses makes in (
              made,
              subst (λ plans. Contains plans made) (sym are_all) (Contains-append_right known (beyond_fields owners uses) made among),
              outside_name made row n here refl ∙ (ap (λ (k : List ℕ). whole_name k (field_member ids row)) names_same ∙ ap (whole_name owner) members_same),
            )

    belongs_there : (owner member : List ℕ) → BelongsField ids classes owner member → IsThere owner member
    unfolding field_uses_of
    belongs_there owner member (BelongsField.defined {raw = raw} e) = defined_there owner member raw e
    belongs_there owner member (BelongsField.out is_system is_out_member) = out_there owner member is_system is_out_member
    belongs_there owner member (BelongsField.named {all = placed_all} {placed = placed} are here names_it) =
        let in_use = field_used placed.insn names_it.row names_it.refers in
        let one : placed_all ≡ are_uses.instructions = classes_once reading classes placed_all are_uses.instructions are are_uses.are in
        let among = in_flat_map (λ (p : Placed). field_use_of p.insn) are_uses.instructions placed names_it.row (subst (λ (ps : List Placed). Contains ps placed) one here) in_use in
        used_there names_it.row owner member (subst (λ (rows : List ℕ). Contains rows names_it.row) (sym (uses_are are_uses.of_fields)) among) names_it.names
      where
        uses_are : uses ≡ field_uses_of are_uses.instructions → uses ≡ flat_map (λ (p : Placed). field_use_of p.insn) are_uses.instructions
        uses_are e = e

    pub are_plans : (plans : List FieldPlan) → AreInOrder plan_name all plans → AreFirst plan_name all plans → AreFieldPlans ids classes names uses plans
    are_plans plans order first = record {
      rise = order.rise;
      owned = λ number plan there. (name_at names plan.owner, there_at names plan.owner (all_there plan (order.among plan (contains_at plans number plan there))));
      each = λ number plan there. each_source plan (first plan (contains_at plans number plan there));
      all = λ owner member belongs. let (plan, there, is) = belongs_there owner member belongs in subst (Contains (map plan_name plans)) is (order.named plan there);
    }
