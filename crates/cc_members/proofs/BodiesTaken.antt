-- Bodies that are left for the methods that are still to be made.
use Rattle.std.proofs.Common.{◌≡◌, ◌≢◌, ◌⊎◌, inl, inr, Bool, true, false, eqb, ℕ, zero, suc, ◌+◌, ◌<◌, List, [], ◌∷◌, map, get_or, Option, Some, None, refl, sym, ap, subst, ◌∙◌, arith}
use Rattle.std.specs.Prelude.{slice_get, option_and_then, option_map}
use Rattle.std.specs.List.{AllZip}
use Rattle.std.specs.Str.{bytes_eq}
use Rattle.std.proofs.lemmas.Bool.Decides.{nat_tests}
use Rattle.std.proofs.lemmas.List.Quantifiers.{position-Some}
use Rattle.std.proofs.lemmas.Option.{slice_get-map, slice_get_within, get_or_from_slice_get}
use Rattle.std.proofs.lemmas.Slice.Eq.{bytes_eq-Decides}
use Rattle.cc_bodies.specs.Bodies.{IsBody, AreClassBodies, AreBodies}
use Rattle.cc_meaning.specs.declared.file.ClassRow.{ClassRow}
use Rattle.cc_meaning.specs.declared.file.Ids.{Ids}
use Rattle.cc_meaning.specs.declared.file.RawClass.{RawClass}
use Rattle.cc_meaning.specs.declared.file.RawMethod.{RawMethod}
use Rattle.cc_meaning.specs.declared.program.Placed.{Placed}
use Rattle.cc_meaning.specs.Order.{IsBefore}
use Rattle.cc_meaning_program.proofs.Rising.{not_before_itself}
use Rattle.cc_meaning_program.specs.Named.{type_name}
use Rattle.cc_meaning_program.specs.Resolved.{whole_name}
use Rattle.cc_meaning_program.specs.Outlines.{definition_number, AreOutlines}
use Rattle.cc_meaning_program.specs.OwnerNumbers.{method_in, method_placed}
use Rattle.cc_meaning_program.specs.Plans.{name_at, source_member, method_plan_name, IsSource}
use Rattle.cc_meaning_program.specs.declared.outline.Outline.{Outline}
use Rattle.cc_meaning_program.specs.declared.plan.MethodPlan.{MethodPlan}
use Rattle.cc_meaning_program.specs.declared.plan.MethodSource.{MethodSource}
use Rattle.cc_meaning_program.specs.declared.plan.MethodSource.TheVariants as from
use Rattle.cc_members.specs.MadeMethods.{SourceTakes}
use Rattle.cc_members.specs.MethodPremises.{PlanMethods, BodyLeft, BodiesLeft}
use Rattle.cc_members.specs.Stated.{definition_at, members_at}
use Rattle.cc_members.specs.Taking.{BodyAt}
use Rattle.cc_members.proofs.ByNumber.{members_same, name_there}
use Rattle.cc_members.proofs.Typed.{item_there}

-- ---- bodies as they were read

zipped : {A B : Type 0} (holds : A → B → Type 0) (xs : List A) (ys : List B) (k : ℕ) (x : A) → AllZip holds xs ys → slice_get xs k ≡ Some x → (y : B) × (slice_get ys k ≡ Some y) × holds x y
zipped holds [] ys k x all there = absurd (cc)
zipped holds (z ∷ zs) [] k x all there = absurd all
zipped {A} {B} holds (z ∷ zs) (y ∷ ys) zero x all there = let same : z ≡ x = cc in (y, refl, subst (λ (a : A). holds a y) same all.0)
zipped holds (z ∷ zs) (y ∷ ys) (suc k) x all there = zipped holds zs ys k x all.1 there

-- the definition, the class data and the method that a place is at
pub record MethodStands (classes : List RawClass) (outlines : List Outline) (owner place : ℕ) (raw : RawMethod) : Type 0 where
  pub number : ℕ
  pub defined : definition_at outlines owner ≡ Some number
  pub class : RawClass
  pub there : slice_get classes number ≡ Some class
  pub stands : slice_get class.methods place ≡ Some raw

pub method_stands : (classes : List RawClass) (outlines : List Outline) (owner place : ℕ) (raw : RawMethod) → method_in place (members_at classes outlines owner) ≡ Some raw → MethodStands classes outlines owner place raw
unfolding method_in
method_stands classes outlines owner place raw is = of_definition (definition_at outlines owner) refl is
  where
    of_class : (number : ℕ) (class : Option RawClass) → definition_at outlines owner ≡ Some number → slice_get classes number ≡ class → method_in place class ≡ Some raw → MethodStands classes outlines owner place raw
    of_class number None defined there is = absurd (cc)
    of_class number (Some class) defined there is = record { number = number; defined = defined; class = class; there = there; stands = is }

    of_definition : (definition : Option ℕ) → definition_at outlines owner ≡ definition → method_in place (option_and_then (slice_get classes) definition) ≡ Some raw → MethodStands classes outlines owner place raw
    of_definition None defined is = absurd (cc)
    of_definition (Some number) defined is = of_class number (slice_get classes number) defined refl is

-- ---- plans of the file

module _ (ids : Ids) (classes : List RawClass) (names : List (List ℕ)) (outlines : List Outline) (are : AreOutlines ids names outlines) (plans : List MethodPlan) (of : PlanMethods ids classes names plans) where
  pub owner_there : (number : ℕ) (plan : MethodPlan) → slice_get plans number ≡ Some plan → slice_get names plan.owner ≡ Some (name_at names plan.owner)
  owner_there number plan there = let (name, is) = of.planned.owned number plan there in name_there names plan.owner name is

  -- the method of the file that a plan is made from
  pub planned_stands : (number place : ℕ) (plan : MethodPlan) → slice_get plans number ≡ Some plan → plan.source ≡ from.File place → (raw : RawMethod) × (method_in place (members_at classes outlines plan.owner) ≡ Some raw)
  unfolding method_placed
  planned_stands number place plan there source = made (from.File place) refl (subst (IsSource ids classes of.methods (name_at names plan.owner)) source (of.planned.each number plan there))
    where
      made : (source : MethodSource) → source ≡ from.File place → IsSource ids classes of.methods (name_at names plan.owner) source → (raw : RawMethod) × (method_in place (members_at classes outlines plan.owner) ≡ Some raw)
      made _ is (IsSource.file {place = at} {raw = raw} placed defined) =
          let one : at ≡ place = cc in (
            raw,
            ap (method_in place) (members_same ids classes names outlines are plan.owner (name_at names plan.owner) (owner_there number plan there))
                ∙ subst (λ (n : ℕ). method_placed ids classes (name_at names plan.owner) n ≡ Some raw) one placed,
          )
      made _ is (IsSource.built_in there listed none) = absurd (cc)
      made _ is (IsSource.outside first none nor) = absurd (cc)

  -- at first all bodies are there
  pub all_left : (bodies : List (List (Option (List Placed)))) → AreBodies classes bodies → BodiesLeft classes outlines plans bodies 0
  all_left bodies read number place plan from_here there source =
      let (raw, is) = planned_stands number place plan there source in
      let stands = method_stands classes outlines plan.owner place raw is in
      let (of_class, in_bodies, of_methods) = zipped (λ (class : RawClass) of_class. AreClassBodies class.methods of_class) classes bodies stands.number stands.class read stands.there in
      let (body, in_class, of_method) = zipped (λ (method : RawMethod) body. IsBody method.code body) stands.class.methods of_class place raw of_methods stands.stands in
      record {
        definition = stands.number;
        defined = stands.defined;
        raw = raw;
        there = is;
        taken = body;
        stands = ap (λ (o : Option (List (Option (List Placed)))). option_and_then (λ (of_class : List (Option (List Placed))). slice_get of_class place) o) in_bodies ∙ in_class;
        read = of_method;
      }

  -- ---- no body is wanted twice

  defined_name : (number : ℕ) (plan : MethodPlan) (definition : ℕ) → slice_get plans number ≡ Some plan → definition_at outlines plan.owner ≡ Some definition → (stated : ClassRow) → slice_get ids.classes definition ≡ Some stated →
      type_name ids stated.class ≡ name_at names plan.owner
  unfolding definition_number
  defined_name number plan definition there defined stated stands =
      let name = name_at names plan.owner in
      let here = owner_there number plan there in
      let (outline, at) = item_there outlines plan.owner (omega (arith, are.all, slice_get_within names plan.owner name here)) in
      let one : outline.definition ≡ Some definition = sym (ap (λ (o : Option Outline). option_and_then (λ (outline : Outline). outline.definition) o) at) ∙ defined in
      let found = position-Some (λ (stated : ClassRow). bytes_eq (type_name ids stated.class) name) ids.classes definition stated (sym (are.each plan.owner name outline here at).definition ∙ one) in
      let same : get_or ids.classes definition stated ≡ stated = get_or_from_slice_get ids.classes definition stated stated stands in
      (bytes_eq-Decides (type_name ids stated.class) name).0 (subst (λ (row : ClassRow). bytes_eq (type_name ids row.class) name ≡ true) same found.1)

  same_definition : (number other : ℕ) (plan another : MethodPlan) (definition : ℕ) → slice_get plans number ≡ Some plan → slice_get plans other ≡ Some another →
      definition_at outlines plan.owner ≡ Some definition → definition_at outlines another.owner ≡ Some definition → name_at names plan.owner ≡ name_at names another.owner
  unfolding definition_number
  same_definition number other plan another definition there stands defined also =
      let name = name_at names plan.owner in
      let here = owner_there number plan there in
      let (outline, at) = item_there outlines plan.owner (omega (arith, are.all, slice_get_within names plan.owner name here)) in
      let one : outline.definition ≡ Some definition = sym (ap (λ (o : Option Outline). option_and_then (λ (outline : Outline). outline.definition) o) at) ∙ defined in
      let none : ClassRow = record { class = 0; flags = 0; superclass = None; interfaces = []; members_at = 0; values_at = 0 } in
      let found = position-Some (λ (stated : ClassRow). bytes_eq (type_name ids stated.class) name) ids.classes definition none (sym (are.each plan.owner name outline here at).definition ∙ one) in
      let (stated, row) = item_there ids.classes definition found.0 in
      sym (defined_name number plan definition there defined stated row) ∙ defined_name other another definition stands also stated row

  -- two plans of the file aren't of one place of one definition
  apart : (number other place : ℕ) (plan another : MethodPlan) (definition : ℕ) → number < other → slice_get plans number ≡ Some plan → slice_get plans other ≡ Some another →
      plan.source ≡ from.File place → another.source ≡ from.File place → definition_at outlines plan.owner ≡ Some definition → definition_at outlines another.owner ≡ Some definition → ⊥
  unfolding method_plan_name
  apart number other place plan another definition below there stands source also_source defined also =
      let class : name_at names plan.owner ≡ name_at names another.owner = same_definition number other plan another definition there stands defined also in
      let member : source_member ids classes (name_at names plan.owner) plan.source ≡ source_member ids classes (name_at names another.owner) another.source =
      ap (source_member ids classes (name_at names plan.owner)) (source ∙ sym also_source) ∙ ap (λ (n : List ℕ). source_member ids classes n another.source) class in
      let same : method_plan_name ids classes names plan ≡ method_plan_name ids classes names another =
      ap (λ (n : List ℕ). whole_name n (source_member ids classes (name_at names plan.owner) plan.source)) class ∙ ap (whole_name (name_at names another.owner)) member in
      let all = map (method_plan_name ids classes names) plans in
      let first : slice_get all number ≡ Some (method_plan_name ids classes names plan) = slice_get-map (method_plan_name ids classes names) plans number ∙ ap (option_map (method_plan_name ids classes names)) there in
      let second : slice_get all other ≡ Some (method_plan_name ids classes names another) = slice_get-map (method_plan_name ids classes names) plans other ∙ ap (option_map (method_plan_name ids classes names)) stands in
      let rise : IsBefore (get_or all number []) (get_or all other []) = of.planned.rise number other [] below (slice_get_within all other (method_plan_name ids classes names another) second) in
      let left : get_or all number [] ≡ method_plan_name ids classes names another = get_or_from_slice_get all number (method_plan_name ids classes names plan) [] first ∙ same in
      let right : get_or all other [] ≡ method_plan_name ids classes names another = get_or_from_slice_get all other (method_plan_name ids classes names another) [] second in
      not_before_itself (method_plan_name ids classes names another)
      (subst (λ (n : List ℕ). IsBefore n (method_plan_name ids classes names another)) left (subst (λ (n : List ℕ). IsBefore (get_or all number []) n) right rise))

  same_or_not : (a b : ℕ) → (a ≡ b) ⊎ (a ≢ b)
  same_or_not a b = decided (eqb a b) refl
    where
      decided : (test : Bool) → eqb a b ≡ test → (a ≡ b) ⊎ (a ≢ b)
      decided true is = inl (grind (arith, nat_tests))
      decided false is = inr (λ e. grind (arith, nat_tests))

  -- once a method is made, the bodies of those behind it are left
  pub rest_left : (number : ℕ) (plan : MethodPlan) (before after : List (List (Option (List Placed)))) → slice_get plans number ≡ Some plan → SourceTakes outlines plan.owner plan.source before after → BodiesLeft classes outlines plans before number →
      BodiesLeft classes outlines plans after (number + 1)
  rest_left number plan before after there takes left other place another from_here stands source = of_source plan.source refl takes
    where
      was : BodyLeft classes outlines before another.owner place
      was = left other place another (omega arith) stands source

      kept : BodyAt after was.definition place was.taken → BodyLeft classes outlines after another.owner place
      kept at = record { definition = was.definition; defined = was.defined; raw = was.raw; there = was.there; taken = was.taken; stands = at; read = was.read }

      unchanged : after ≡ before → BodyLeft classes outlines after another.owner place
      unchanged same = kept (subst (λ (bodies : List (List (Option (List Placed)))). BodyAt bodies was.definition place was.taken) (sym same) was.stands)

      elsewhere : (at definition : ℕ) → plan.source ≡ from.File at → definition_at outlines plan.owner ≡ Some definition → (was.definition ≢ definition) ⊎ (place ≢ at)
      elsewhere at definition is defined = of_definition (same_or_not was.definition definition)
        where
          of_place : was.definition ≡ definition → (place ≡ at) ⊎ (place ≢ at) → (was.definition ≢ definition) ⊎ (place ≢ at)
          of_place one (inl two) =
              absurd (apart number other place plan another definition (omega arith) there stands (is ∙ ap from.File (sym two)) source defined (was.defined ∙ ap Some one))
          of_place one (inr not) = inr not

          of_definition : (was.definition ≡ definition) ⊎ (was.definition ≢ definition) → (was.definition ≢ definition) ⊎ (place ≢ at)
          of_definition (inl one) = of_place one (same_or_not place at)
          of_definition (inr not) = inl not

      of_source : (source : MethodSource) → plan.source ≡ source → SourceTakes outlines plan.owner source before after → BodyLeft classes outlines after another.owner place
      of_source (from.File at) is (definition, defined, takes) = kept (takes was.definition place was.taken (elsewhere at definition is defined) was.stands)
      of_source (from.BuiltIn at) is same = unchanged same
      of_source (from.Outside used) is same = unchanged same
