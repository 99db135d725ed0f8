-- What rows of methods are among the methods of a program.
use Rattle.std.proofs.Common.{◌≡◌, ◌⊎◌, inl, inr, ℕ, zero, suc, ◌+◌, ◌<◌, ◌≤◌, List, [], ◌∷◌, ◌++◌, length, map, get_or, Option, Some, None, slice_get, refl, sym, ap, subst, ◌∙◌, arith}
use Rattle.std.specs.Prelude.{Contains}
use Rattle.std.specs.List.{flat_map}
use Rattle.std.proofs.lemmas.List.{length-append}
use Rattle.std.proofs.lemmas.List.Elements.{Contains-append_cases}
use Rattle.std.proofs.lemmas.Option.{slice_get_within, slice_get_cases}
use Rattle.cc_meaning.specs.declared.file.Ids.{Ids}
use Rattle.cc_meaning.specs.declared.file.MethodRow.{MethodRow}
use Rattle.cc_meaning.specs.declared.file.RawClass.{RawClass}
use Rattle.cc_meaning.specs.declared.program.Placed.{Placed}
use Rattle.cc_meaning_program.specs.ClassNames.{AreClassNames, IsClassName}
use Rattle.cc_meaning_program.specs.Named.{type_name, method_member}
use Rattle.cc_meaning_program.specs.Laws.{OneMethodOwner}
use Rattle.cc_meaning_program.specs.Members.{BelongsMethod}
use Rattle.cc_meaning_program.specs.Naming.{RowNamesMethod}
use Rattle.cc_meaning_program.specs.Owners.{MethodOwner as OwnsMethod}
use Rattle.cc_meaning_program.specs.Resolved.{whole_name}
use Rattle.cc_meaning_program.specs.declared.links.MethodLink.{MethodLink}
use Rattle.cc_meaning_program.specs.declared.owner.MethodOwner.{MethodOwner}
use Rattle.cc_meaning_program.specs.declared.plan.MethodPlan.{MethodPlan}
use Rattle.cc_meaning_program.specs.declared.uses.MethodUse.{MethodUse}
use Rattle.cc_meaning_program.specs.Links.{IsMethodLink}
use Rattle.cc_meaning_program.specs.OwnerNumbers.{AreMethodOwners, IsMethodOwner}
use Rattle.cc_meaning_program.specs.Plans.{AreMethodPlans, method_plan_name}
use Rattle.cc_meaning_program.specs.Rows.{FitTables}
use Rattle.cc_meaning_program.specs.Uses.{AreUses, method_use_of, method_uses_of}
use Rattle.cc_members.specs.declared.named.Member.TheVariants.{Method}
use Rattle.cc_members.specs.Candidates.{owner_class}
use Rattle.cc_members.specs.Linked.{IsMethodLinked, LinkMethods, AreMethodLinks}
use Rattle.cc_members.specs.Named.{named_text, member_text}
use Rattle.cc_members.proofs.Defined.{some_is}
use Rattle.cc_members.proofs.Outlined.{name_there}
use Rattle.cc_members.proofs.UsedRows.{use_named}

pub flat_map_from : {A B : Type 0} (f : A → List B) (xs : List A) (y : B) → Contains (flat_map f xs) y → (x : A) × Contains xs x × Contains (f x) y
flat_map_from f [] y (k, within, is) = absurd (omega arith)
flat_map_from {A} {B} f (z ∷ xs) y there = from (Contains-append_cases (f z) (flat_map f xs) y there) (flat_map_from f xs y)
  where
    from : Contains (f z) y ⊎ Contains (flat_map f xs) y → (Contains (flat_map f xs) y → (x : A) × Contains xs x × Contains (f x) y) → (x : A) × Contains (z ∷ xs) x × Contains (f x) y
    from (inl here) rests = (z, (0, omega arith, refl), here)
    from (inr behind) rests = let (x, (k, within, is), makes) = rests behind in (x, (suc k, omega arith, is), makes)

pub pushed_get : {A : Type 0} (xs : List A) (y : A) (k : ℕ) (x : A) → slice_get (xs ++ y ∷ []) k ≡ Some x → (slice_get xs k ≡ Some x) ⊎ ((k ≡ length xs) × (y ≡ x))
pushed_get [] y zero x there = inr (refl, some_is y x there)
pushed_get [] y (suc k) x there = absurd (cc)
pushed_get (z ∷ xs) y zero x there = inl there
pushed_get {A} (z ∷ xs) y (suc k) x there = from (pushed_get xs y k x there)
  where
    from : (slice_get xs k ≡ Some x) ⊎ ((k ≡ length xs) × (y ≡ x)) → (slice_get (z ∷ xs) (suc k) ≡ Some x) ⊎ ((suc k ≡ length (z ∷ xs)) × (y ≡ x))
    from (inl before) = inl before
    from (inr (at, same)) = inr (ap suc at, same)

module _ (ids : Ids) (classes : List RawClass) (names : List (List ℕ)) (owners : List MethodOwner) (fit : FitTables ids) (class_names : AreClassNames ids names) (are_owners : AreMethodOwners ids classes names owners) where
  -- the class of a row's owner is that of the method that it names
  pub owner_named : (row : ℕ) (o : MethodOwner) → slice_get owners row ≡ Some o → (name : List ℕ) × (slice_get names (owner_class o) ≡ Some name) × RowNamesMethod ids classes row name (method_member ids row)
  unfolding owner_class
  owner_named row o there = from o (are_owners.each row o there)
    where
      from : (p : MethodOwner) → IsMethodOwner ids classes names row p → (name : List ℕ) × (slice_get names (owner_class p) ≡ Some name) × RowNamesMethod ids classes row name (method_member ids row)
      from _ (IsMethodOwner.file {name = name} at named defined placed) = (name, at, named)
      from _ (IsMethodOwner.built_in {name = name} at named undefined listed placed) = (name, at, named)
      from _ (IsMethodOwner.outside {name = name} at named undefined unlisted) = (name, at, named)

  pub wanted_name : (listed : List (List (List ℕ))) (row : ℕ) (o : MethodOwner) (name : List ℕ) → slice_get names (owner_class o) ≡ Some name →
      named_text ids names listed (record { owner = owner_class o; member = Method row }) ≡ whole_name name (method_member ids row)
  unfolding named_text member_text
  wanted_name listed row o name at = ap (λ (n : List ℕ). whole_name n (method_member ids row)) (name_there names (owner_class o) name at)

  pub class_there : (row : ℕ) (stated : MethodRow) → slice_get ids.methods row ≡ Some stated → Contains names (type_name ids stated.class)
  class_there row stated there = let fits = (fit.methods row stated there).class in (class_names.are (type_name ids stated.class)).1 (IsClassName.listed fits.there fits.sorted)

  -- ---- one row

  pub not_stated : (methods : List (List ℕ)) (row : ℕ) (linked : Option MethodLink) → linked ≡ None → ((owner member : List ℕ) → RowNamesMethod ids classes row owner member → Contains methods (whole_name owner member) → ⊥) →
      IsMethodLinked ids classes names methods row linked
  not_stated methods row linked none never = record {
    is = λ link e. absurd (let no : None ≡ Some link = sym none ∙ e in cc);
    some = λ owner member named there. absurd (never owner member named there);
  }

  pub linked_to : (methods : List (List ℕ)) (listed : List (List (List ℕ))) (row : ℕ) (stated : MethodRow) (o : MethodOwner) (link : MethodLink) → slice_get ids.methods row ≡ Some stated → slice_get owners row ≡ Some o →
      slice_get names link.class ≡ Some (type_name ids stated.class) → slice_get methods link.number ≡ Some (named_text ids names listed (record { owner = owner_class o; member = Method row })) →
      IsMethodLinked ids classes names methods row (Some link)
  linked_to methods listed row stated o link there owned class number =
      let (name, at, named) = owner_named row o owned in
      let is : IsMethodLink ids classes names methods row link = record {
        stated = stated;
        there = there;
        class = class;
        owner = name;
        member = method_member ids row;
        named = named;
        numbered = number ∙ ap Some (wanted_name listed row o name at);
      } in
      record {
        is = λ other e. subst (IsMethodLink ids classes names methods row) (some_is link other e) is;
        some = λ owner member named there. (link, refl);
      }

  pub unnamed : (one_owner : OneMethodOwner) (methods : List (List ℕ)) (listed : List (List (List ℕ))) (row : ℕ) (o : MethodOwner) → slice_get owners row ≡ Some o →
      (Contains methods (named_text ids names listed (record { owner = owner_class o; member = Method row })) → ⊥) →
      (owner member : List ℕ) → RowNamesMethod ids classes row owner member → Contains methods (whole_name owner member) → ⊥
  unnamed one_owner methods listed row o owned never owner member named there =
      let (name, at, also) = owner_named row o owned in
      let stated : also.stated ≡ named.stated = some_is also.stated named.stated (sym also.there ∙ named.there) in
      let within : method_member ids row ≡ member = named.within in
      let moved = subst (λ (n : List ℕ). OwnsMethod ids classes (type_name ids also.stated.class) n name) within also.owned in
      let same : name ≡ owner = one_owner ids classes (type_name ids named.stated.class) member name owner (subst (λ (row_stated : MethodRow). OwnsMethod ids classes (type_name ids row_stated.class) member name) stated moved) named.owned in
      let text = wanted_name listed row o name at ∙ (ap (λ (n : List ℕ). whole_name n (method_member ids row)) same ∙ ap (whole_name owner) within) in
      never (subst (Contains methods) (sym text) there)

  -- ---- all rows

  pub none_linked : (methods : List (List ℕ)) → LinkMethods ids classes names methods 0 []
  none_linked methods = record { rows = refl; each = λ row linked there. absurd (let none = slice_get_within [] row linked there in omega arith) }

  pub one_linked : (methods : List (List ℕ)) (count : ℕ) (links : List (Option MethodLink)) (linked : Option MethodLink) → LinkMethods ids classes names methods count links → IsMethodLinked ids classes names methods count linked →
      LinkMethods ids classes names methods (count + 1) (links ++ linked ∷ [])
  one_linked methods count links linked so is = record {
    rows = length-append links (linked ∷ []) ∙ ap (λ (n : ℕ). n + 1) so.rows;
    each = λ row other there. from row other (pushed_get links linked row other there);
  }
    where
      from : (row : ℕ) (other : Option MethodLink) → (slice_get links row ≡ Some other) ⊎ ((row ≡ length links) × (linked ≡ other)) → IsMethodLinked ids classes names methods row other
      from row other (inl there) = so.each row other there
      from row other (inr (at, same)) = subst (λ (o : Option MethodLink). IsMethodLinked ids classes names methods row o) same (subst (λ (n : ℕ). IsMethodLinked ids classes names methods n linked) (sym (at ∙ so.rows)) is)

  pub all_linked : (uses : List MethodUse) (fields : List ℕ) (plans : List MethodPlan) (links : List (Option MethodLink)) → AreUses classes uses fields → ((used : MethodUse) → Contains uses used → used.row < length ids.methods) →
      AreMethodPlans ids classes names uses plans → LinkMethods ids classes names (map (method_plan_name ids classes names) plans) (length ids.methods) links →
      AreMethodLinks ids classes names (map (method_plan_name ids classes names) plans) uses links
  unfolding method_uses_of
  all_linked uses fields plans links are_uses rows are_plans linking = record {
    rows = linking.rows;
    each = λ row link there. (linking.each row (Some link) there).is link refl;
    all = used_linked;
  }
    where
      methods : List (List ℕ)
      methods = map (method_plan_name ids classes names) plans

      names_it : (used : MethodUse) (name : List ℕ) → Contains uses used → RowNamesMethod ids classes used.row name (method_member ids used.row) → BelongsMethod ids classes name (method_member ids used.row)
      names_it used name in_uses named =
          let (placed, here, makes) = flat_map_from (λ (p : Placed). method_use_of p.insn) are_uses.instructions used (subst (λ (us : List MethodUse). Contains us used) are_uses.of_methods in_uses) in
          BelongsMethod.named are_uses.are here (record { row = used.row; refers = use_named placed.insn used makes; names = named })

      at_row : (used : MethodUse) → Contains uses used → ((o : MethodOwner) × (used.row < length owners) × (slice_get owners used.row ≡ Some o) × (get_or owners used.row o ≡ o)) ⊎ ((length owners ≤ used.row) × (slice_get owners used.row ≡ None)) →
          ((o : Option MethodLink) × (used.row < length links) × (slice_get links used.row ≡ Some o) × (get_or links used.row o ≡ o)) ⊎ ((length links ≤ used.row) × (slice_get links used.row ≡ None)) →
          (link : MethodLink) × (slice_get links used.row ≡ Some (Some link))
      at_row used in_uses (inr (past, none)) linked = absurd (let less = rows used in_uses in omega (arith, less, past, are_owners.all))
      at_row used in_uses owned (inr (past, none)) = absurd (let less = rows used in_uses in omega (arith, less, past, linking.rows))
      at_row used in_uses (inl (o, inside, owned, same)) (inl (linked, within, there, also)) =
          let (name, at, named) = owner_named used.row o owned in
          let (link, is) = (linking.each used.row linked there).some name (method_member ids used.row) named (are_plans.all name (method_member ids used.row) (names_it used name in_uses named)) in
          (link, there ∙ ap Some is)

      used_linked : (used : MethodUse) → Contains uses used → (link : MethodLink) × (slice_get links used.row ≡ Some (Some link))
      used_linked used in_uses = at_row used in_uses (slice_get_cases owners used.row).1 (slice_get_cases links used.row).1
