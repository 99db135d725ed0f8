-- The methods of a program, once the methods that classes have themselves and those that uses name are put in order.
use Rattle.std.proofs.Common.{◌≡◌, ◌⊎◌, ◌↔◌, inl, inr, ℕ, zero, suc, ◌<◌, ◌≤◌, List, [], ◌∷◌, ◌++◌, length, map, get_or, Option, Some, None, slice_get, refl, sym, ap, subst, ◌∙◌, arith}
use Rattle.std.specs.Prelude.{Contains}
use Rattle.std.specs.List.{flat_map, filter_map, cons_option}
use Rattle.std.proofs.lemmas.List.Elements.{Contains-append_left, Contains-append_right, Contains-append_cases}
use Rattle.std.proofs.lemmas.Option.{slice_get_within, slice_get_cases, get_or_from_slice_get}
use Rattle.cc_meaning.specs.declared.file.Ids.{Ids}
use Rattle.cc_meaning.specs.declared.file.RawClass.{RawClass}
use Rattle.cc_meaning.specs.declared.file.RawMethod.{RawMethod}
use Rattle.cc_meaning.specs.declared.program.Placed.{Placed}
use Rattle.cc_built_in.specs.BuiltInMethods.{BuiltInMethod, built_in_member}
use Rattle.cc_meaning_program.specs.ClassFaults.{AreSound}
use Rattle.cc_meaning_program.specs.ClassNames.{AreClassNames, IsClassName}
use Rattle.cc_meaning_program.specs.Instructions.{OneReading}
use Rattle.cc_meaning_program.specs.Named.{type_name, method_member}
use Rattle.cc_meaning_program.specs.OwnMembers.{members_of, method_defined, method_listed, built_in_methods_of}
use Rattle.cc_meaning_program.specs.Laws.{OneMethodOwner}
use Rattle.cc_meaning_program.specs.Members.{BelongsMethod}
use Rattle.cc_meaning_program.specs.Owners.{MethodOwner as OwnsMethod}
use Rattle.cc_meaning_program.specs.Naming.{RowNamesMethod}
use Rattle.cc_meaning_program.specs.Resolved.{whole_name}
use Rattle.cc_meaning_program.specs.Searches.{First}
use Rattle.cc_meaning_program.proofs.SameMembers.{classes_once}
use Rattle.cc_meaning_program.specs.declared.owner.MethodOwner.{MethodOwner}
use Rattle.cc_meaning_program.specs.declared.owner.MethodOwner.TheVariants as method
use Rattle.cc_meaning_program.specs.declared.plan.MethodPlan.{MethodPlan}
use Rattle.cc_meaning_program.specs.declared.plan.MethodSource.{MethodSource}
use Rattle.cc_meaning_program.specs.declared.plan.MethodSource.TheVariants as from
use Rattle.cc_meaning_program.specs.declared.uses.MethodUse.{MethodUse}
use Rattle.cc_meaning_program.specs.OwnerNumbers.{AreMethodOwners, IsMethodOwner, method_placed}
use Rattle.cc_meaning_program.specs.Plans.{AreMethodPlans, IsSource, name_at, method_plan_name, source_member, raw_method_member, listed_member}
use Rattle.cc_meaning_program.specs.Rows.{FitTables}
use Rattle.cc_meaning_program.specs.Uses.{AreUses, method_use_of, method_uses_of}
use Rattle.cc_names.specs.InOrder.{AreInOrder}
use Rattle.cc_members.specs.Candidates.{IsOwnPlan, IsOwnBelow, file_plan, built_in_plan, method_count, outside_plan, outside_plans}
use Rattle.cc_members.specs.FirstInOrder.{AreFirst}
use Rattle.cc_members.proofs.Defined.{some_is, definition_from, defined_is_class, method_defined_at, method_placed_at, method_at, no_method, method_listed_at, listed_at_place, not_of_file}
use Rattle.cc_members.proofs.Ordered.{contains_head, contains_tail}
use Rattle.cc_members.proofs.Outlined.{there_at, name_there}
use Rattle.cc_members.proofs.UsedRows.{method_used}

-- ---- lists

pub contains_at : {A : Type 0} (xs : List A) (k : ℕ) (x : A) → slice_get xs k ≡ Some x → Contains xs x
contains_at xs k x there = (k, slice_get_within xs k x there, get_or_from_slice_get xs k x x there)

pub at_contained : {A : Type 0} (xs : List A) (x : A) → Contains xs x → (k : ℕ) × (slice_get xs k ≡ Some x)
at_contained [] x (k, within, is) = absurd (omega arith)
at_contained (y ∷ xs) x (zero, within, is) = (0, ap Some is)
at_contained (y ∷ xs) x (suc k, within, is) = let (n, there) = at_contained xs x (k, omega arith, is) in (suc n, there)

pub in_filter_map : {A B : Type 0} (f : A → Option B) (xs : List A) (x : A) (y : B) → Contains xs x → f x ≡ Some y → Contains (filter_map f xs) y
in_filter_map f [] x y (k, within, is) makes = absurd (omega arith)
in_filter_map {A} {B} f (z ∷ xs) x y (zero, within, is) makes =
    let here : f z ≡ Some y = ap f is ∙ makes in
    subst (λ (o : Option B). Contains (cons_option o (filter_map f xs)) y) (sym here) (contains_head y (filter_map f xs))
in_filter_map {A} {B} f (z ∷ xs) x y (suc k, within, is) makes = behind (f z) (in_filter_map f xs x y (k, omega arith, is) makes)
  where
    behind : (o : Option B) → Contains (filter_map f xs) y → Contains (cons_option o (filter_map f xs)) y
    behind None there = there
    behind (Some w) there = contains_tail w (filter_map f xs) y there

pub filter_map_from : {A B : Type 0} (f : A → Option B) (xs : List A) (y : B) → Contains (filter_map f xs) y → (x : A) × (f x ≡ Some y)
filter_map_from f [] y (k, within, is) = absurd (omega arith)
filter_map_from {A} {B} f (z ∷ xs) y there = from (f z) refl (filter_map_from f xs y) there
  where
    from : (o : Option B) → f z ≡ o → (Contains (filter_map f xs) y → (x : A) × (f x ≡ Some y)) → Contains (cons_option o (filter_map f xs)) y → (x : A) × (f x ≡ Some y)
    from None is rests here = rests here
    from (Some w) is rests (zero, within, same) = (z, is ∙ ap Some same)
    from (Some w) is rests (suc k, within, same) = rests (k, omega arith, same)

pub in_flat_map : {A B : Type 0} (f : A → List B) (xs : List A) (x : A) (y : B) → Contains xs x → Contains (f x) y → Contains (flat_map f xs) y
in_flat_map f [] x y (k, within, is) there = absurd (omega arith)
in_flat_map f (z ∷ xs) x y (zero, within, is) there = Contains-append_left (f z) (flat_map f xs) y (subst (λ w. Contains (f w) y) (sym is) there)
in_flat_map f (z ∷ xs) x y (suc k, within, is) there = Contains-append_right (f z) (flat_map f xs) y (in_flat_map f xs x y (k, omega arith, is) there)

pub first_within : {A : Type 0} {is_so : A → Type 0} (xs : List A) (x : A) → First is_so xs x → Contains xs x
first_within _ x (First.here {xs = tail} so) = contains_head x tail
first_within _ x (First.later {x = y} {xs = tail} not rest) = contains_tail y tail x (first_within tail x rest)

-- the first of two lists is in the first one, or none of that is so, and it is the first of the second
pub first_of_two : {A : Type 0} {is_so : A → Type 0} (xs ys : List A) (x : A) → First is_so (xs ++ ys) x → Contains xs x ⊎ (((other : A) → Contains xs other → ¬ is_so other) × First is_so ys x)
first_of_two [] ys x first = inr ((λ other here. absurd (omega (arith, here.1))), first)
first_of_two (y ∷ xs) ys x (First.here so) = inl (contains_head y xs)
first_of_two {A} {is_so} (y ∷ xs) ys x (First.later not rest) = from (first_of_two xs ys x rest)
  where
    none : ((other : A) → Contains xs other → ¬ is_so other) → (other : A) → Contains (y ∷ xs) other → ¬ is_so other
    none before other (zero, within, is) = subst (λ (z : A). ¬ is_so z) is not
    none before other (suc k, within, is) = before other (k, omega arith, is)

    from : Contains xs x ⊎ (((other : A) → Contains xs other → ¬ is_so other) × First is_so ys x) → Contains (y ∷ xs) x ⊎ (((other : A) → Contains (y ∷ xs) other → ¬ is_so other) × First is_so ys x)
    from (inl there) = inl (contains_tail y xs x there)
    from (inr (before, first)) = inr (none before, first)

first_cases : {A : Type 0} {is_so : A → Type 0} (w : A) (ws : List A) (y : A) → First is_so (w ∷ ws) y → ((w ≡ y) × is_so y) ⊎ ((¬ is_so w) × First is_so ws y)
first_cases _ _ y (First.here so) = inl (refl, so)
first_cases _ _ y (First.later not rest) = inr (not, rest)

-- the first of what things make is made by the first thing that makes such
pub record Makes {A B : Type 0} (f : A → Option B) (is_so : B → Type 0) (x : A) : Type 0 where
  pub made : B
  pub makes : f x ≡ Some made
  pub so : is_so made

pub first_maker : {A B : Type 0} {is_so : B → Type 0} (f : A → Option B) (xs : List A) (y : B) → First is_so (filter_map f xs) y → (x : A) × First (Makes f is_so) xs x × (f x ≡ Some y)
first_maker f [] y first = absurd (let here = first_within [] y first in omega (arith, here.1))
first_maker {A} {B} {is_so} f (z ∷ xs) y first = from (f z) refl (first_maker f xs y)
  where
    from : (o : Option B) → f z ≡ o → (First is_so (filter_map f xs) y → (x : A) × First (Makes f is_so) xs x × (f x ≡ Some y)) → (x : A) × First (Makes f is_so) (z ∷ xs) x × (f x ≡ Some y)
    from None is rests =
        let (x, rest, makes) = rests (subst (λ (o : Option B). First is_so (cons_option o (filter_map f xs)) y) is first) in
        (x, First.later (λ (m : Makes f is_so z). absurd (let e : None ≡ Some m.made = sym is ∙ m.makes in cc)) rest, makes)
    from (Some w) is rests = split (first_cases w (filter_map f xs) y (subst (λ (o : Option B). First is_so (cons_option o (filter_map f xs)) y) is first))
      where
        split : ((w ≡ y) × is_so y) ⊎ ((¬ is_so w) × First is_so (filter_map f xs) y) → (x : A) × First (Makes f is_so) (z ∷ xs) x × (f x ≡ Some y)
        split (inl (same, so)) = (z, First.here (record { made = y; makes = is ∙ ap Some same; so = so }), is ∙ ap Some same)
        split (inr (not, rest)) =
            let (x, on, makes) = rests rest in
            (x, First.later (λ (m : Makes f is_so z). not (let e : m.made ≡ w = some_is m.made w (sym m.makes ∙ is) in subst is_so e m.so)) on, makes)

-- what is the first of its kind is so of any kind that holds there and of which the other is a part
pub first_as : {A : Type 0} {is_so such : A → Type 0} (xs : List A) (x : A) → First is_so xs x → such x → ((other : A) → such other → is_so other) → First such xs x
first_as _ x (First.here so) here part = First.here here
first_as _ x (First.later {x = y} {xs = tail} not rest) here part = First.later (λ (yes : _). not (part y yes)) (first_as tail x rest here part)

-- ---- members of a program

module _ (ids : Ids) (classes : List RawClass) (names : List (List ℕ)) (owners : List MethodOwner) (uses : List MethodUse) (fields : List ℕ)
    (fit : FitTables ids) (sound : AreSound ids classes) (class_names : AreClassNames ids names) (are_owners : AreMethodOwners ids classes names owners) (are_uses : AreUses classes uses fields)
    (one_owner : OneMethodOwner) (reading : OneReading) where
  abbrev plan_name : MethodPlan → List ℕ
  plan_name = method_plan_name ids classes names

  -- a class of the program has a number
  number_of : (name : List ℕ) → IsClassName ids name → (number : ℕ) × (number < length names) × (slice_get names number ≡ Some name)
  number_of name is =
      let (number, there) = at_contained names name ((class_names.are name).1 is) in
      (number, slice_get_within names number name there, there)

  -- ---- what classes have themselves

  file_source : (name : List ℕ) (place : ℕ) → place < method_count (members_of ids classes name) → IsSource ids classes uses name (from.File place)
  unfolding method_count
  file_source name place within = by_class (members_of ids classes name) refl within
    where
      by_class : (o : Option RawClass) → members_of ids classes name ≡ o → place < method_count o → IsSource ids classes uses name (from.File place)
      by_class None is less = absurd (omega arith)
      by_class (Some class) is less = at_place (slice_get_cases class.methods place).1
        where
          at_place : ((raw : RawMethod) × (place < length class.methods) × (slice_get class.methods place ≡ Some raw) × (get_or class.methods place raw ≡ raw)) ⊎ ((length class.methods ≤ place) × (slice_get class.methods place ≡ None)) → IsSource ids classes uses name (from.File place)
          at_place (inl (raw, inside, there, same)) = IsSource.file (method_placed_at ids classes name class place is ∙ there) (method_defined_at ids classes name class place raw sound is there)
          at_place (inr (past, none)) = absurd (omega arith)

  listed_source : (name : List ℕ) (place : ℕ) → place < length (built_in_methods_of ids name) → IsSource ids classes uses name (from.BuiltIn place)
  listed_source name place within = at_place (slice_get_cases (built_in_methods_of ids name) place).1
    where
      at_place : ((listed : BuiltInMethod) × (place < length (built_in_methods_of ids name)) × (slice_get (built_in_methods_of ids name) place ≡ Some listed) × (get_or (built_in_methods_of ids name) place listed ≡ listed)) ⊎ ((length (built_in_methods_of ids name) ≤ place) × (slice_get (built_in_methods_of ids name) place ≡ None)) → IsSource ids classes uses name (from.BuiltIn place)
      at_place (inl (listed, inside, there, same)) = IsSource.built_in there (method_listed_at ids name place listed there) (no_method ids classes name (built_in_member listed) (not_of_file ids classes name place listed sound there))
      at_place (inr (past, none)) = absurd (omega arith)

  own_source : (owner : ℕ) (plan : MethodPlan) → IsOwnPlan ids classes names owner plan → (plan.owner ≡ owner) × IsSource ids classes uses (name_at names plan.owner) plan.source
  unfolding file_plan built_in_plan
  own_source owner plan (inl (place, within, is)) = subst (λ (p : MethodPlan). (p.owner ≡ owner) × IsSource ids classes uses (name_at names p.owner) p.source) is (refl, file_source (name_at names owner) place within)
  own_source owner plan (inr (place, within, is)) = subst (λ (p : MethodPlan). (p.owner ≡ owner) × IsSource ids classes uses (name_at names p.owner) p.source) is (refl, listed_source (name_at names owner) place within)

  -- ---- what uses name

  -- a row that names a method has an owner
  owner_of : (row : ℕ) (owner member : List ℕ) → RowNamesMethod ids classes row owner member → (o : MethodOwner) × (slice_get owners row ≡ Some o) × IsMethodOwner ids classes names row o
  owner_of row owner member named = at_row (slice_get_cases owners row).1
    where
      within : row < length owners
      within = let less = slice_get_within ids.methods row named.stated named.there in omega (arith, less, are_owners.all)

      at_row : ((o : MethodOwner) × (row < length owners) × (slice_get owners row ≡ Some o) × (get_or owners row o ≡ o)) ⊎ ((length owners ≤ row) × (slice_get owners row ≡ None)) → (o : MethodOwner) × (slice_get owners row ≡ Some o) × IsMethodOwner ids classes names row o
      at_row (inl (o, inside, there, same)) = (o, there, are_owners.each row o there)
      at_row (inr (past, none)) = absurd (omega (arith, within, past))

  same_owner_of : (row : ℕ) (this that member other : List ℕ) → RowNamesMethod ids classes row this member → RowNamesMethod ids classes row that other → (this ≡ that) × (member ≡ other)
  same_owner_of row this that member other one two =
      let stated : one.stated ≡ two.stated = some_is one.stated two.stated (sym one.there ∙ two.there) in
      let members : member ≡ other = sym one.within ∙ two.within in
      let moved = subst (λ (n : List ℕ). OwnsMethod ids classes (type_name ids one.stated.class) n this) members one.owned in
      (one_owner ids classes (type_name ids two.stated.class) other this that (subst (λ row_stated. OwnsMethod ids classes (type_name ids row_stated.class) other this) stated moved) two.owned, members)

  -- a use of the program's that names a method of no class of its own
  outside_source : (used : MethodUse) (plan : MethodPlan) → outside_plan (slice_get owners used.row) used ≡ Some plan →
      (name : List ℕ) × (slice_get names plan.owner ≡ Some name) × (plan.source ≡ from.Outside used) × RowNamesMethod ids classes used.row name (method_member ids used.row)
      × (method_defined ids classes name (method_member ids used.row) ≡ None) × (method_listed ids name (method_member ids used.row) ≡ None)
  unfolding outside_plan
  outside_source used plan e = by_owner (slice_get owners used.row) refl e
    where
      by_owner : (o : Option MethodOwner) → slice_get owners used.row ≡ o → outside_plan o used ≡ Some plan →
          (name : List ℕ) × (slice_get names plan.owner ≡ Some name) × (plan.source ≡ from.Outside used) × RowNamesMethod ids classes used.row name (method_member ids used.row)
          × (method_defined ids classes name (method_member ids used.row) ≡ None) × (method_listed ids name (method_member ids used.row) ≡ None)
      by_owner None is made = absurd (cc)
      by_owner (Some (method.File class place)) is made = absurd (cc)
      by_owner (Some (method.BuiltIn class place)) is made = absurd (cc)
      by_owner (Some (method.Outside class)) is made = told (are_owners.each used.row (method.Outside class) is)
        where
          told : IsMethodOwner ids classes names used.row (method.Outside class) →
              (name : List ℕ) × (slice_get names plan.owner ≡ Some name) × (plan.source ≡ from.Outside used) × RowNamesMethod ids classes used.row name (method_member ids used.row)
              × (method_defined ids classes name (method_member ids used.row) ≡ None) × (method_listed ids name (method_member ids used.row) ≡ None)
          told (IsMethodOwner.outside {name = name} there named undefined unlisted) =
              let same : record { owner = class; source = from.Outside used } ≡ plan = some_is _ plan made in
              (name, subst (λ (p : MethodPlan). slice_get names p.owner ≡ Some name) same there, sym (ap (λ (p : MethodPlan). p.source) same), named, undefined, unlisted)

  -- ---- all of them

  module _ (own all : List MethodPlan) (owned : (plan : MethodPlan) → Contains own plan ↔ IsOwnBelow ids classes names (length names) plan) (are_all : all ≡ own ++ outside_plans owners uses) where
    own_there : (plan : MethodPlan) → IsOwnBelow ids classes names (length names) plan → plan.owner < length names
    own_there plan (owner, less, is) = let e = (own_source owner plan is).0 in omega (arith, e, less)

    outside_from : (plan : MethodPlan) → Contains (outside_plans owners uses) plan → (used : MethodUse) × (outside_plan (slice_get owners used.row) used ≡ Some plan)
    unfolding outside_plans
    outside_from plan there = made_by uses there
      where
        made_by : (us : List MethodUse) → Contains (filter_map (λ (used : MethodUse). outside_plan (slice_get owners used.row) used) us) plan → (used : MethodUse) × (outside_plan (slice_get owners used.row) used ≡ Some plan)
        made_by us here = filter_map_from (λ (used : MethodUse). outside_plan (slice_get owners used.row) used) us plan here

    pub all_there : (plan : MethodPlan) → Contains all plan → plan.owner < length names
    all_there plan there = cases (Contains-append_cases own (outside_plans owners uses) plan (subst (λ plans. Contains plans plan) are_all there))
      where
        cases : Contains own plan ⊎ Contains (outside_plans owners uses) plan → plan.owner < length names
        cases (inl here) = own_there plan ((owned plan).0 here)
        cases (inr here) =
            let (used, made) = outside_from plan here in
            let (name, at, source, named, undefined, unlisted) = outside_source used plan made in
            slice_get_within names plan.owner name at

    own_in_all : (plan : MethodPlan) → IsOwnBelow ids classes names (length names) plan → Contains all plan
    own_in_all plan below = subst (λ plans. Contains plans plan) (sym are_all) (Contains-append_left own (outside_plans owners uses) plan ((owned plan).1 below))

    outside_name : (plan : MethodPlan) (used : MethodUse) (name : List ℕ) → slice_get names plan.owner ≡ Some name → plan.source ≡ from.Outside used → plan_name plan ≡ whole_name name (method_member ids used.row)
    unfolding method_plan_name source_member
    outside_name plan used name at source =
        ap (λ (n : List ℕ). whole_name n (source_member ids classes n plan.source)) (name_there names plan.owner name at) ∙ ap (λ (s : MethodSource). whole_name name (source_member ids classes name s)) source

    -- ---- where each comes from

    first_use : (used : MethodUse) (plan : MethodPlan) (name : List ℕ) → First (Makes (λ (other : MethodUse). outside_plan (slice_get owners other.row) other) (λ (other : MethodPlan). plan_name other ≡ plan_name plan)) uses used →
        slice_get names plan.owner ≡ Some name → plan.source ≡ from.Outside used → RowNamesMethod ids classes used.row name (method_member ids used.row) →
        method_defined ids classes name (method_member ids used.row) ≡ None → method_listed ids name (method_member ids used.row) ≡ None →
        First (λ (other : MethodUse). RowNamesMethod ids classes other.row name (method_member ids used.row)) uses used
    unfolding outside_plan
    first_use used plan name first at source named undefined unlisted = first_as uses used first named part
      where
        member : List ℕ
        member = method_member ids used.row

        by_owner : (other : MethodUse) (o : MethodOwner) → RowNamesMethod ids classes other.row name member → slice_get owners other.row ≡ Some o → IsMethodOwner ids classes names other.row o →
            Makes (λ (using : MethodUse). outside_plan (slice_get owners using.row) using) (λ (made : MethodPlan). plan_name made ≡ plan_name plan) other
        by_owner other _ also there (IsMethodOwner.file {name = n} {raw = raw} here this defined placed) =
            let (names_same, members_same) = same_owner_of other.row n name (method_member ids other.row) member this also in
            absurd (let e : None ≡ Some raw = sym undefined ∙ (sym (ap (λ (m : List ℕ). method_defined ids classes name m) members_same) ∙ (sym (ap (λ (k : List ℕ). method_defined ids classes k (method_member ids other.row)) names_same) ∙ defined)) in cc)
        by_owner other _ also there (IsMethodOwner.built_in {name = n} {listed = listed} here this none is at_place) =
            let (names_same, members_same) = same_owner_of other.row n name (method_member ids other.row) member this also in
            absurd (let e : None ≡ Some listed = sym unlisted ∙ (sym (ap (λ (m : List ℕ). method_listed ids name m) members_same) ∙ (sym (ap (λ (k : List ℕ). method_listed ids k (method_member ids other.row)) names_same) ∙ is)) in cc)
        by_owner other _ also there (IsMethodOwner.outside {class = class} {name = n} here this none unlisted_too) =
            let (names_same, members_same) = same_owner_of other.row n name (method_member ids other.row) member this also in
            let made : MethodPlan = record { owner = class; source = from.Outside other } in
            record {
              made = made;
              makes = ap (λ (o : Option MethodOwner). outside_plan o other) there;
              so = outside_name made other n here refl ∙ (ap (λ (k : List ℕ). whole_name k (method_member ids other.row)) names_same ∙ (ap (whole_name name) members_same ∙ sym (outside_name plan used name at source)));
            }

        part : (other : MethodUse) → RowNamesMethod ids classes other.row name member → Makes (λ (using : MethodUse). outside_plan (slice_get owners using.row) using) (λ (made : MethodPlan). plan_name made ≡ plan_name plan) other
        part other also = let (o, there, is) = owner_of other.row name member also in by_owner other o also there is

    each_source : (plan : MethodPlan) → First (λ (other : MethodPlan). plan_name other ≡ plan_name plan) all plan → IsSource ids classes uses (name_at names plan.owner) plan.source
    unfolding outside_plans
    each_source plan first = cases (first_of_two own (outside_plans owners uses) plan (subst (λ plans. First (λ (other : MethodPlan). plan_name other ≡ plan_name plan) plans plan) are_all first))
      where
        cases : Contains own plan ⊎ (((other : MethodPlan) → Contains own other → ¬ (plan_name other ≡ plan_name plan)) × First (λ (other : MethodPlan). plan_name other ≡ plan_name plan) (outside_plans owners uses) plan) →
            IsSource ids classes uses (name_at names plan.owner) plan.source
        cases (inl here) = let (owner, less, is) = (owned plan).0 here in (own_source owner plan is).1
        cases (inr (none, behind)) =
            let (used, made_first, made) = first_maker (λ (used : MethodUse). outside_plan (slice_get owners used.row) used) uses plan behind in
            let (name, at, source, named, undefined, unlisted) = outside_source used plan made in
            let is = IsSource.outside (first_use used plan name made_first at source named undefined unlisted) undefined unlisted in
            subst (λ (n : List ℕ). IsSource ids classes uses n plan.source) (sym (name_there names plan.owner name at)) (subst (λ (s : MethodSource). IsSource ids classes uses name s) (sym source) is)

    -- ---- all are there

    abbrev IsThere : List ℕ → List ℕ → Type 0
    IsThere owner member = (plan : MethodPlan) × Contains all plan × (plan_name plan ≡ whole_name owner member)

    defined_there : (owner member : List ℕ) (raw : RawMethod) → method_defined ids classes owner member ≡ Some raw → IsThere owner member
    unfolding method_count file_plan method_plan_name source_member raw_method_member
    defined_there owner member raw e =
        let at = method_at ids classes owner member raw e in
        let d = definition_from ids classes owner at.class at.members in
        let (number, less, there) = number_of owner (defined_is_class ids d.number owner fit d.defines) in
        let same = name_there names number owner there in
        let count : method_count (members_of ids classes (name_at names number)) ≡ length at.class.methods = ap (λ (n : List ℕ). method_count (members_of ids classes n)) same ∙ ap method_count at.members in
        let within : at.place < method_count (members_of ids classes (name_at names number)) = let inside = slice_get_within at.class.methods at.place raw at.there in omega (arith, inside, count) in
        let placed = method_placed_at ids classes owner at.class at.place at.members ∙ at.there in (
          file_plan number at.place,
          own_in_all (file_plan number at.place) (number, less, inl (at.place, within, refl)),
          ap (λ (n : List ℕ). whole_name n (raw_method_member ids (method_placed ids classes n at.place))) same ∙ (ap (λ (o : Option RawMethod). whole_name owner (raw_method_member ids o)) placed ∙ ap (whole_name owner) at.named),
        )

    listed_there : (owner member : List ℕ) (listed : BuiltInMethod) → IsClassName ids owner → method_listed ids owner member ≡ Some listed → IsThere owner member
    unfolding built_in_plan method_plan_name source_member listed_member
    listed_there owner member listed is e =
        let (place, at, named) = listed_at_place ids owner member listed e in
        let (number, less, there) = number_of owner is in
        let same = name_there names number owner there in
        let count : length (built_in_methods_of ids (name_at names number)) ≡ length (built_in_methods_of ids owner) = ap (λ (n : List ℕ). length (built_in_methods_of ids n)) same in
        let within : place < length (built_in_methods_of ids (name_at names number)) = let inside = slice_get_within (built_in_methods_of ids owner) place listed at in omega (arith, inside, count) in (
          built_in_plan number place,
          own_in_all (built_in_plan number place) (number, less, inr (place, within, refl)),
          ap (λ (n : List ℕ). whole_name n (listed_member (slice_get (built_in_methods_of ids n) place))) same ∙ (ap (λ (o : Option BuiltInMethod). whole_name owner (listed_member o)) at ∙ ap (whole_name owner) named),
        )

    used_there : (used : MethodUse) (owner member : List ℕ) → Contains uses used → RowNamesMethod ids classes used.row owner member → IsThere owner member
    unfolding outside_plan outside_plans
    used_there used owner member in_uses named = let (o, there, is) = owner_of used.row owner member named in by_owner o there is
      where
        by_owner : (o : MethodOwner) → slice_get owners used.row ≡ Some o → IsMethodOwner ids classes names used.row o → IsThere owner member
        by_owner _ there (IsMethodOwner.file {name = n} {raw = raw} here this defined placed) =
            let (names_same, members_same) = same_owner_of used.row n owner (method_member ids used.row) member this named in
            defined_there owner member raw (subst (λ (m : List ℕ). method_defined ids classes owner m ≡ Some raw) members_same (subst (λ (k : List ℕ). method_defined ids classes k (method_member ids used.row) ≡ Some raw) names_same defined))
        by_owner _ there (IsMethodOwner.built_in {class = class} {name = n} {listed = listed} here this none is at_place) =
            let (names_same, members_same) = same_owner_of used.row n owner (method_member ids used.row) member this named in
            let class_is : IsClassName ids owner = subst (IsClassName ids) names_same ((class_names.are n).0 (contains_at names class n here)) in
            listed_there owner member listed class_is (subst (λ (m : List ℕ). method_listed ids owner m ≡ Some listed) members_same (subst (λ (k : List ℕ). method_listed ids k (method_member ids used.row) ≡ Some listed) names_same is))
        by_owner _ there (IsMethodOwner.outside {class = class} {name = n} here this none unlisted) =
            let (names_same, members_same) = same_owner_of used.row n owner (method_member ids used.row) member this named in
            let made : MethodPlan = record { owner = class; source = from.Outside used } in
            let makes : outside_plan (slice_get owners used.row) used ≡ Some made = ap (λ (o : Option MethodOwner). outside_plan o used) there in
            let among = in_filter_map (λ (using : MethodUse). outside_plan (slice_get owners using.row) using) uses used made in_uses makes in (
              made,
              subst (λ plans. Contains plans made) (sym are_all) (Contains-append_right own (outside_plans owners uses) made among),
              outside_name made used n here refl ∙ (ap (λ (k : List ℕ). whole_name k (method_member ids used.row)) names_same ∙ ap (whole_name owner) members_same),
            )

    belongs_there : (owner member : List ℕ) → BelongsMethod ids classes owner member → IsThere owner member
    unfolding method_uses_of
    belongs_there owner member (BelongsMethod.defined {raw = raw} e) = defined_there owner member raw e
    belongs_there owner member (BelongsMethod.built_in {listed = listed} is e) = listed_there owner member listed is e
    belongs_there owner member (BelongsMethod.named {all = placed_all} {placed = placed} are here names_it) =
        let (used, in_use, same_row) = method_used placed.insn names_it.row names_it.refers in
        let one : placed_all ≡ are_uses.instructions = classes_once reading classes placed_all are_uses.instructions are are_uses.are in
        let among = in_flat_map (λ (p : Placed). method_use_of p.insn) are_uses.instructions placed used (subst (λ (ps : List Placed). Contains ps placed) one here) in_use in
        used_there used owner member (subst (λ (us : List MethodUse). Contains us used) (sym (uses_are are_uses.of_methods)) among) (subst (λ (row : ℕ). RowNamesMethod ids classes row owner member) (sym same_row) names_it.names)
      where
        uses_are : uses ≡ method_uses_of are_uses.instructions → uses ≡ flat_map (λ (p : Placed). method_use_of p.insn) are_uses.instructions
        uses_are e = e

    pub are_plans : (plans : List MethodPlan) → AreInOrder plan_name all plans → AreFirst plan_name all plans → AreMethodPlans ids classes names uses plans
    are_plans plans order first = record {
      rise = order.rise;
      owned = λ number plan there. (name_at names plan.owner, there_at names plan.owner (all_there plan (order.among plan (contains_at plans number plan there))));
      each = λ number plan there. each_source plan (first plan (contains_at plans number plan there));
      all = λ owner member belongs. let (plan, there, is) = belongs_there owner member belongs in subst (Contains (map plan_name plans)) is (order.named plan there);
    }
