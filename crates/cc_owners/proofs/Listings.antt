-- The place of a name among built-in methods.
use Rattle.std.proofs.Common.{◌≡◌, ◌⊎◌, inl, inr, ℕ, ◌+◌, ◌<◌, ◌≤◌, false, true, List, length, get_or, Some, None, slice_get, option_map, sym, ap, subst, ◌∙◌, arith}
use Rattle.std.specs.Prelude.{position}
use Rattle.std.specs.Str.{bytes_eq}
use Rattle.std.proofs.lemmas.Bool.{cases_lt}
use Rattle.std.proofs.lemmas.List.{length-map}
use Rattle.std.proofs.lemmas.Option.{slice_get-get_or, slice_get-map, slice_get_within}
use Rattle.cc_built_in.specs.Listed.{members_listed}
use Rattle.cc_built_in.specs.declared.table.ListedMethod.{ListedMethod}
use Rattle.cc_owners.proofs.Lists.{some_is}
use Rattle.cc_owners.proofs.Positions.{position_is, position_none}

module _ (methods : List ListedMethod) (name : List ℕ) where
  -- none of the first is it
  abbrev pub NotYet : ℕ → Type 0
  NotYet place = (j : ℕ) (member : List ℕ) → j < place → slice_get (members_listed methods) j ≡ Some member → bytes_eq member name ≡ false

  there : (d : ListedMethod) (place : ℕ) → place < length methods → slice_get (members_listed methods) place ≡ Some (get_or methods place d).member.now
  there d place within = slice_get-map (λ (listed : ListedMethod). listed.member.now) methods place ∙ ap (option_map (λ (listed : ListedMethod). listed.member.now)) (slice_get-get_or methods place d within)

  pub spelled_here : (d : ListedMethod) (place : ℕ) → place < length methods → bytes_eq (get_or methods place d).member.now name ≡ true → NotYet place → Some place ≡ position (λ member. bytes_eq member name) (members_listed methods)
  spelled_here d place within passes before = sym (position_is (λ member. bytes_eq member name) (members_listed methods) place (get_or methods place d).member.now (there d place within) passes before)

  pub not_spelled : (d : ListedMethod) (place : ℕ) → place < length methods → bytes_eq (get_or methods place d).member.now name ≡ false → NotYet place → NotYet (place + 1)
  not_spelled d place within fails before j member below read = from (cases_lt j place)
    where
      from : (j < place) ⊎ (place ≤ j) → bytes_eq member name ≡ false
      from (inl earlier) = before j member earlier read
      from (inr last) =
          let same : j ≡ place = omega arith in
          let one : (get_or methods place d).member.now ≡ member = some_is (get_or methods place d).member.now member (sym (there d place within) ∙ (ap (slice_get (members_listed methods)) (sym same) ∙ read)) in
          subst (λ m. bytes_eq m name ≡ false) one fails

  pub nothing_spelled : (place : ℕ) → length methods ≤ place → NotYet place → None ≡ position (λ member. bytes_eq member name) (members_listed methods)
  nothing_spelled place past before = sym (position_none (λ member. bytes_eq member name) (members_listed methods) (λ j member read.
      let within = slice_get_within (members_listed methods) j member read in
      let long = length-map methods (λ (listed : ListedMethod). listed.member.now) in
      before j member (omega (arith, within, long)) read))
