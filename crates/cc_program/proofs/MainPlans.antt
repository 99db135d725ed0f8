-- The plan of a main method is found.
use Rattle.std.proofs.Common.{◌≡◌, ◌⊎◌, inl, inr, ℕ, ◌+◌, ◌<◌, ◌≤◌, Bool, true, false, List, length, slice_index_or, Option, Some, None, refl, sym, ap, ◌∙◌, subst, arith}
use Rattle.std.specs.Prelude.{slice_get}
use Rattle.std.specs.Bool.{Decides}
use Rattle.std.specs.Str.{bytes_eq}
use Rattle.std.proofs.lemmas.Option.{slice_get_within, slice_get-get_or}
use Rattle.cc_meaning.specs.declared.file.Ids.{Ids}
use Rattle.cc_meaning.specs.declared.file.RawClass.{RawClass}
use Rattle.cc_meaning.specs.declared.file.RawMethod.{RawMethod}
use Rattle.cc_meaning_program.specs.declared.plan.MethodPlan.{MethodPlan}
use Rattle.cc_meaning_program.specs.Named.{method_member}
use Rattle.cc_meaning_program.specs.Programs.{main_member}
use Rattle.cc_program.specs.Mains.{IsMainSource, IsMainPlan}
use Rattle.cc_program.proofs.Assembly.{some_same}

pub decides_source : (ids : Ids) (methods : List RawMethod) (place : ℕ) (method : RawMethod) (r : Bool) → slice_get methods place ≡ Some method → r ≡ bytes_eq (method_member ids method.row) main_member →
    Decides r ((raw : RawMethod) × (slice_get methods place ≡ Some raw) × (bytes_eq (method_member ids raw.row) main_member ≡ true))
decides_source ids methods place method r there is = (
  λ yes. (method, there, sym is ∙ yes),
  λ has. is ∙ (ap (λ (m : RawMethod). bytes_eq (method_member ids m.row) main_member) (some_same method has.0 (sym there ∙ has.1)) ∙ has.2),
)

-- no plan from the first to before this one is it
abbrev pub NoMainPlanBefore : Ids → RawClass → ℕ → List MethodPlan → ℕ → Type 0
NoMainPlanBefore ids class owner plans end = (number : ℕ) → number < end → ¬ IsMainPlan ids class owner plans number

before_or_here : (j place : ℕ) → j < place + 1 → (j < place) ⊎ (j ≡ place)
before_or_here j place h = grind arith

module _ (ids : Ids) (class : RawClass) (owner : ℕ) (plans : List MethodPlan) where
  plan_at : (number : ℕ) (d : MethodPlan) → number < length plans → IsMainPlan ids class owner plans number → ((slice_index_or plans number d).owner ≡ owner) × IsMainSource ids class (slice_index_or plans number d).source
  plan_at number d within main =
      let same : main.plan ≡ slice_index_or plans number d = some_same main.plan (slice_index_or plans number d) (sym main.there ∙ slice_get-get_or plans number d within) in
      subst (λ (p : MethodPlan). (p.owner ≡ owner) × IsMainSource ids class p.source) same (main.owned, main.source)

  pub one_more : (number : ℕ) (d : MethodPlan) → number < length plans → NoMainPlanBefore ids class owner plans number → (((slice_index_or plans number d).owner ≡ owner) × IsMainSource ids class (slice_index_or plans number d).source → false ≡ true) →
      NoMainPlanBefore ids class owner plans (number + 1)
  one_more number d within none other j below main = from (before_or_here j number below)
    where
      from : (j < number) ⊎ (j ≡ number) → ⊥
      from (inl before) = none j before main
      from (inr here) = let bad : false ≡ true = other (plan_at number d within (subst (IsMainPlan ids class owner plans) here main)) in absurd cc

  pub is_plan : (number : ℕ) (d : MethodPlan) → number < length plans → ((slice_index_or plans number d).owner ≡ owner) × IsMainSource ids class (slice_index_or plans number d).source → IsMainPlan ids class owner plans number
  is_plan number d within both = record { plan = slice_index_or plans number d; there = slice_get-get_or plans number d within; owned = both.0; source = both.1 }

  pub one_there : (end : ℕ) → length plans ≤ end → NoMainPlanBefore ids class owner plans end → (number : ℕ) → IsMainPlan ids class owner plans number → ⊥
  one_there end past none number main =
      let within = slice_get_within plans number main.plan main.there in
      none number (omega (arith, within, past)) main
