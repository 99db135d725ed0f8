-- What rows of fields are among the fields of a program.
use Rattle.std.proofs.Common.{◌≡◌, ◌⊎◌, inl, inr, ℕ, ◌+◌, ◌<◌, ◌≤◌, List, [], ◌∷◌, ◌++◌, length, map, get_or, Option, Some, None, slice_get, refl, sym, ap, subst, ◌∙◌, arith}
use Rattle.std.specs.Prelude.{Contains}
use Rattle.std.proofs.lemmas.List.{length-append}
use Rattle.std.proofs.lemmas.Option.{slice_get_within, slice_get_cases}
use Rattle.cc_meaning.specs.declared.file.Ids.{Ids}
use Rattle.cc_meaning.specs.declared.file.FieldRow.{FieldRow}
use Rattle.cc_meaning.specs.declared.file.RawClass.{RawClass}
use Rattle.cc_meaning.specs.declared.program.Placed.{Placed}
use Rattle.cc_meaning_program.specs.Named.{type_name, field_member}
use Rattle.cc_meaning_program.specs.Laws.{OneFieldOwner}
use Rattle.cc_meaning_program.specs.Members.{BelongsField}
use Rattle.cc_meaning_program.specs.Naming.{RowNamesField}
use Rattle.cc_meaning_program.specs.Owners.{FieldOwner as OwnsField}
use Rattle.cc_meaning_program.specs.Resolved.{whole_name}
use Rattle.cc_meaning_program.specs.declared.owner.FieldOwner.{FieldOwner}
use Rattle.cc_meaning_program.specs.declared.plan.FieldPlan.{FieldPlan}
use Rattle.cc_meaning_program.specs.declared.uses.MethodUse.{MethodUse}
use Rattle.cc_meaning_program.specs.Links.{IsFieldLink}
use Rattle.cc_meaning_program.specs.OwnerNumbers.{AreFieldOwners, IsFieldOwner}
use Rattle.cc_meaning_program.specs.Plans.{AreFieldPlans, field_plan_name}
use Rattle.cc_meaning_program.specs.Uses.{AreUses, field_use_of, field_uses_of}
use Rattle.cc_members.specs.declared.named.Member.TheVariants.{Field}
use Rattle.cc_members.specs.Candidates.{field_owner_class}
use Rattle.cc_members.specs.Linked.{IsFieldLinked, LinkFields, AreFieldLinks}
use Rattle.cc_members.specs.Named.{named_text, member_text}
use Rattle.cc_members.proofs.Defined.{some_is}
use Rattle.cc_members.proofs.MethodLinking.{flat_map_from, pushed_get}
use Rattle.cc_members.proofs.Outlined.{name_there}
use Rattle.cc_members.proofs.UsedRows.{field_use_named}

module _ (ids : Ids) (classes : List RawClass) (names : List (List ℕ)) (owners : List FieldOwner) (are_owners : AreFieldOwners ids classes names owners) where
  -- the class of a row's owner is that of the field that it names
  pub owner_named : (row : ℕ) (o : FieldOwner) → slice_get owners row ≡ Some o → (name : List ℕ) × (slice_get names (field_owner_class o) ≡ Some name) × RowNamesField ids classes row name (field_member ids row)
  unfolding field_owner_class
  owner_named row o there = from o (are_owners.each row o there)
    where
      from : (p : FieldOwner) → IsFieldOwner ids classes names row p → (name : List ℕ) × (slice_get names (field_owner_class p) ≡ Some name) × RowNamesField ids classes row name (field_member ids row)
      from _ (IsFieldOwner.file {name = name} at named defined placed) = (name, at, named)
      from _ (IsFieldOwner.beyond {name = name} at named undefined) = (name, at, named)

  pub wanted_name : (listed : List (List (List ℕ))) (row : ℕ) (o : FieldOwner) (name : List ℕ) → slice_get names (field_owner_class o) ≡ Some name →
      named_text ids names listed (record { owner = field_owner_class o; member = Field row }) ≡ whole_name name (field_member ids row)
  unfolding named_text member_text
  wanted_name listed row o name at = ap (λ (n : List ℕ). whole_name n (field_member ids row)) (name_there names (field_owner_class o) name at)

  -- ---- one row

  pub not_stated : (fields : List (List ℕ)) (row : ℕ) (linked : Option ℕ) → linked ≡ None → ((owner member : List ℕ) → RowNamesField ids classes row owner member → Contains fields (whole_name owner member) → ⊥) →
      IsFieldLinked ids classes fields row linked
  not_stated fields row linked none never = record {
    is = λ link e. absurd (let no : None ≡ Some link = sym none ∙ e in cc);
    some = λ owner member named there. absurd (never owner member named there);
  }

  pub linked_to : (fields : List (List ℕ)) (listed : List (List (List ℕ))) (row : ℕ) (o : FieldOwner) (link : ℕ) → slice_get owners row ≡ Some o →
      slice_get fields link ≡ Some (named_text ids names listed (record { owner = field_owner_class o; member = Field row })) →
      IsFieldLinked ids classes fields row (Some link)
  linked_to fields listed row o link owned number =
      let (name, at, named) = owner_named row o owned in
      let is : IsFieldLink ids classes fields row link = record {
        owner = name;
        member = field_member ids row;
        named = named;
        numbered = number ∙ ap Some (wanted_name listed row o name at);
      } in
      record {
        is = λ other e. subst (IsFieldLink ids classes fields row) (some_is link other e) is;
        some = λ owner member named there. (link, refl);
      }

  pub unnamed : (one_owner : OneFieldOwner) (fields : List (List ℕ)) (listed : List (List (List ℕ))) (row : ℕ) (o : FieldOwner) → slice_get owners row ≡ Some o →
      (Contains fields (named_text ids names listed (record { owner = field_owner_class o; member = Field row })) → ⊥) →
      (owner member : List ℕ) → RowNamesField ids classes row owner member → Contains fields (whole_name owner member) → ⊥
  unnamed one_owner fields listed row o owned never owner member named there =
      let (name, at, also) = owner_named row o owned in
      let stated : also.stated ≡ named.stated = some_is also.stated named.stated (sym also.there ∙ named.there) in
      let within : field_member ids row ≡ member = named.within in
      let moved = subst (λ (n : List ℕ). OwnsField ids classes (type_name ids also.stated.class) n name) within also.owned in
      let same : name ≡ owner = one_owner ids classes (type_name ids named.stated.class) member name owner (subst (λ (row_stated : FieldRow). OwnsField ids classes (type_name ids row_stated.class) member name) stated moved) named.owned in
      let text = wanted_name listed row o name at ∙ (ap (λ (n : List ℕ). whole_name n (field_member ids row)) same ∙ ap (whole_name owner) within) in
      never (subst (Contains fields) (sym text) there)

  -- ---- all rows

  pub none_linked : (fields : List (List ℕ)) → LinkFields ids classes fields 0 []
  none_linked fields = record { rows = refl; each = λ row linked there. absurd (let none = slice_get_within [] row linked there in omega arith) }

  pub one_linked : (fields : List (List ℕ)) (count : ℕ) (links : List (Option ℕ)) (linked : Option ℕ) → LinkFields ids classes fields count links → IsFieldLinked ids classes fields count linked →
      LinkFields ids classes fields (count + 1) (links ++ linked ∷ [])
  one_linked fields count links linked so is = record {
    rows = length-append links (linked ∷ []) ∙ ap (λ (n : ℕ). n + 1) so.rows;
    each = λ row other there. from row other (pushed_get links linked row other there);
  }
    where
      from : (row : ℕ) (other : Option ℕ) → (slice_get links row ≡ Some other) ⊎ ((row ≡ length links) × (linked ≡ other)) → IsFieldLinked ids classes fields row other
      from row other (inl there) = so.each row other there
      from row other (inr (at, same)) = subst (λ (o : Option ℕ). IsFieldLinked ids classes fields row o) same (subst (λ (n : ℕ). IsFieldLinked ids classes fields n linked) (sym (at ∙ so.rows)) is)

  pub all_linked : (methods : List MethodUse) (uses : List ℕ) (plans : List FieldPlan) (links : List (Option ℕ)) → AreUses classes methods uses → ((used : ℕ) → Contains uses used → used < length ids.fields) →
      AreFieldPlans ids classes names uses plans → LinkFields ids classes (map (field_plan_name ids classes names) plans) (length ids.fields) links →
      AreFieldLinks ids classes (map (field_plan_name ids classes names) plans) uses links
  unfolding field_uses_of
  all_linked methods uses plans links are_uses rows are_plans linking = record {
    rows = linking.rows;
    each = λ row link there. (linking.each row (Some link) there).is link refl;
    all = used_linked;
  }
    where
      names_it : (used : ℕ) (name : List ℕ) → Contains uses used → RowNamesField ids classes used name (field_member ids used) → BelongsField ids classes name (field_member ids used)
      names_it used name in_uses named =
          let (placed, here, makes) = flat_map_from (λ (p : Placed). field_use_of p.insn) are_uses.instructions used (subst (λ (us : List ℕ). Contains us used) are_uses.of_fields in_uses) in
          BelongsField.named are_uses.are here (record { row = used; refers = field_use_named placed.insn used makes; names = named })

      at_row : (used : ℕ) → Contains uses used → ((o : FieldOwner) × (used < length owners) × (slice_get owners used ≡ Some o) × (get_or owners used o ≡ o)) ⊎ ((length owners ≤ used) × (slice_get owners used ≡ None)) →
          ((o : Option ℕ) × (used < length links) × (slice_get links used ≡ Some o) × (get_or links used o ≡ o)) ⊎ ((length links ≤ used) × (slice_get links used ≡ None)) →
          (link : ℕ) × (slice_get links used ≡ Some (Some link))
      at_row used in_uses (inr (past, none)) linked = absurd (let less = rows used in_uses in omega (arith, less, past, are_owners.all))
      at_row used in_uses owned (inr (past, none)) = absurd (let less = rows used in_uses in omega (arith, less, past, linking.rows))
      at_row used in_uses (inl (o, inside, owned, same)) (inl (linked, within, there, also)) =
          let (name, at, named) = owner_named used o owned in
          let (link, is) = (linking.each used linked there).some name (field_member ids used) named (are_plans.all name (field_member ids used) (names_it used name in_uses named)) in
          (link, there ∙ ap Some is)

      used_linked : (used : ℕ) → Contains uses used → (link : ℕ) × (slice_get links used ≡ Some (Some link))
      used_linked used in_uses = at_row used in_uses (slice_get_cases owners used).1 (slice_get_cases links used).1
