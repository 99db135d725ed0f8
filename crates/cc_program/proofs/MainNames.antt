-- The main method of the main class is planned, by its name.
use Rattle.std.proofs.Common.{◌≡◌, ℕ, List, [], ◌∷◌, ◌++◌, map, Option, Some, None, refl, sym, ap, ◌∙◌, subst, position}
use Rattle.std.specs.Prelude.{slice_get, Contains, codes, true}
use Rattle.std.specs.Str.{bytes_eq}
use Rattle.std.proofs.lemmas.List.{append_assoc}
use Rattle.std.proofs.lemmas.Option.{slice_get_within, slice_get-get_or, get_or_from_slice_get}
use Rattle.std.proofs.lemmas.Slice.Eq.{bytes_eq-Decides}
use Rattle.cc_meaning.specs.declared.file.Ids.{Ids}
use Rattle.cc_meaning.specs.declared.file.RawClass.{RawClass}
use Rattle.cc_meaning.specs.declared.file.RawMethod.{RawMethod}
use Rattle.cc_meaning_dex.specs.TableLaws.{DescriptorsAgree}
use Rattle.cc_meaning_program.specs.ClassFaults.{AreSound}
use Rattle.cc_meaning_program.specs.ClassNames.{AreClassNames}
use Rattle.cc_meaning_program.specs.Named.{method_member, type_name}
use Rattle.cc_built_in.specs.BuiltInMethods.{built_in_member}
use Rattle.cc_meaning_program.specs.OwnMembers.{method_defined, members_of}
use Rattle.cc_meaning_program.specs.Members.{BelongsMethod}
use Rattle.cc_meaning_program.specs.Programs.{main_member}
use Rattle.cc_meaning_program.specs.Resolved.{whole_name}
use Rattle.cc_meaning_program.specs.declared.plan.MethodPlan.{MethodPlan}
use Rattle.cc_meaning_program.specs.declared.plan.MethodSource.{MethodSource}
use Rattle.cc_meaning_program.specs.declared.plan.MethodSource.TheVariants as from
use Rattle.cc_meaning_program.specs.declared.uses.MethodUse.{MethodUse}
use Rattle.cc_meaning_program.specs.OwnerNumbers.{method_placed, method_in}
use Rattle.cc_meaning_program.specs.Plans.{name_at, source_member, raw_method_member, listed_member, method_plan_name, IsSource, AreMethodPlans}
use Rattle.cc_meaning_program.specs.Rows.{FitTables}
use Rattle.cc_program.specs.Mains.{IsMainOf, IsMainSource, IsMainPlan}
use Rattle.cc_program.proofs.Assembly.{some_same, found_mapped, place_of_name, name_there, contained_at}
use Rattle.cc_program.proofs.MainClasses.{members_at, has_main}
use Rattle.cc_program.proofs.Splitting.{one_front, class_is_of_value}

-- whole names that are equal have one class and one member
same_parts : (ids : Ids) → FitTables ids → DescriptorsAgree → (names : List (List ℕ)) → AreClassNames ids names → (this that x y : List ℕ) → Contains names this → Contains names that → whole_name this x ≡ whole_name that y → (this ≡ that) × (x ≡ y)
unfolding whole_name
same_parts ids fit agree names class_names this that x y one two e =
    let f : this ++ (codes "->" ++ x) ≡ that ++ (codes "->" ++ y) = sym (append_assoc this (codes "->") x) ∙ (e ∙ append_assoc that (codes "->") y) in
    let front = one_front this that (codes "->" ++ x) (codes "->" ++ y) (class_is_of_value ids fit agree this ((class_names.are this).0 one)) (class_is_of_value ids fit agree that ((class_names.are that).0 two)) f in
    (front.0, let g : 45 ∷ 62 ∷ x ≡ 45 ∷ 62 ∷ y = front.1 in cc)

contains_it : (names : List (List ℕ)) (k : ℕ) (name : List ℕ) → slice_get names k ≡ Some name → Contains names name
contains_it names k name e = (k, slice_get_within names k name e, get_or_from_slice_get names k name name e)

module _ (ids : Ids) (classes : List RawClass) (names : List (List ℕ)) (uses : List MethodUse) (plans : List MethodPlan) (asked : Option (List ℕ)) (number place owner : ℕ)
    (fit : FitTables ids) (sound : AreSound ids classes) (agree : DescriptorsAgree) (class_names : AreClassNames ids names) (are_plans : AreMethodPlans ids classes names uses plans)
    (main : IsMainOf ids classes asked number place) (numbered : slice_get names owner ≡ Some (type_name ids main.stated.class)) where
  name : List ℕ
  name = type_name ids main.stated.class

  members : members_of ids classes (type_name ids main.stated.class) ≡ Some main.class
  members = members_at ids classes sound number main.stated main.class main.defined main.there

  defined : (raw : RawMethod) × (method_defined ids classes (type_name ids main.stated.class) main_member ≡ Some raw)
  defined = let has = has_main ids classes sound number place asked main in (has.0, has.1)

  -- what a method of this name in the class is made from
  main_source : (source : MethodSource) → IsSource ids classes uses (type_name ids main.stated.class) source → source_member ids classes (type_name ids main.stated.class) source ≡ main_member → IsMainSource ids main.class source
  unfolding source_member raw_method_member listed_member method_placed method_in
  main_source _ (IsSource.file {place = place} {raw = raw} placed is) named = (
    raw,
    sym (ap (method_in place) members) ∙ placed,
    (bytes_eq-Decides (method_member ids raw.row) main_member).1 (sym (ap (raw_method_member ids) placed) ∙ named),
  )
  main_source _ (IsSource.built_in {place = place} {listed = listed} stands is missing) named =
      let same : built_in_member listed ≡ main_member = sym (ap listed_member stands) ∙ named in
      let none : method_defined ids classes (type_name ids main.stated.class) main_member ≡ None = subst (λ member. method_defined ids classes (type_name ids main.stated.class) member ≡ None) same missing in
      let bad : None ≡ Some defined.0 = sym none ∙ defined.1 in
      absurd cc
  main_source _ (IsSource.outside {used = used} first missing listed) named =
      let none : method_defined ids classes (type_name ids main.stated.class) main_member ≡ None = subst (λ member. method_defined ids classes (type_name ids main.stated.class) member ≡ None) named missing in
      let bad : None ≡ Some defined.0 = sym none ∙ defined.1 in
      absurd cc

  pub main_is_planned : (k : ℕ) × IsMainPlan ids main.class owner plans k
  unfolding method_plan_name
  main_is_planned =
      let there = contained_at (map (method_plan_name ids classes names) plans) (whole_name (type_name ids main.stated.class) main_member) (are_plans.all (type_name ids main.stated.class) main_member (BelongsMethod.defined defined.1)) in
      let found = found_mapped (method_plan_name ids classes names) plans there.0 (whole_name (type_name ids main.stated.class) main_member) there.1 in
      let plan : MethodPlan = found.0 in
      let owned = are_plans.owned there.0 plan found.1 in
      let its : name_at names plan.owner ≡ owned.0 = name_there names plan.owner owned.0 owned.1 in
      let stands : slice_get names plan.owner ≡ Some (name_at names plan.owner) = owned.1 ∙ ap Some (sym its) in
      let parts = same_parts ids fit agree names class_names (name_at names plan.owner) (type_name ids main.stated.class) (source_member ids classes (name_at names plan.owner) plan.source) main_member
      (contains_it names plan.owner (name_at names plan.owner) stands) (contains_it names owner (type_name ids main.stated.class) numbered) found.2 in
      let mine = place_of_name names plan.owner (type_name ids main.stated.class) class_names.rise (stands ∙ ap Some parts.0) in
      let yours = place_of_name names owner (type_name ids main.stated.class) class_names.rise numbered in
      let source : IsSource ids classes uses (type_name ids main.stated.class) plan.source = subst (λ n. IsSource ids classes uses n plan.source) parts.0 (are_plans.each there.0 plan found.1) in (
        there.0,
        record {
          plan = plan;
          there = found.1;
          owned = some_same plan.owner owner (sym mine ∙ yours);
          source = main_source plan.source source (sym (ap (λ n. source_member ids classes n plan.source) parts.0) ∙ parts.1);
        },
      )

  named_source : (source : MethodSource) → IsMainSource ids main.class source → source_member ids classes (type_name ids main.stated.class) source ≡ main_member
  unfolding source_member raw_method_member method_placed method_in
  named_source (from.File place) is = ap (raw_method_member ids) (ap (method_in place) members ∙ is.1) ∙ (bytes_eq-Decides (method_member ids is.0.row) main_member).0 is.2
  named_source (from.BuiltIn place) is = absurd is
  named_source (from.Outside used) is = absurd is

  -- the main method's plan has the main method's name
  pub main_is_named : (k : ℕ) → (is : IsMainPlan ids main.class owner plans k) → method_plan_name ids classes names is.plan ≡ whole_name (type_name ids main.stated.class) main_member
  unfolding method_plan_name
  main_is_named k is =
      let its : name_at names is.plan.owner ≡ type_name ids main.stated.class = ap (name_at names) is.owned ∙ name_there names owner (type_name ids main.stated.class) numbered in
      ap (λ n. whole_name n (source_member ids classes n is.plan.source)) its ∙ ap (whole_name (type_name ids main.stated.class)) (named_source is.plan.source is.source)
