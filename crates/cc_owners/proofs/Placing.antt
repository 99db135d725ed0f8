-- The place of a member in a class of a number.
use Rattle.std.proofs.Common.{◌≡◌, ℕ, Option, Some, None, Bool, true, false, not, List, [], ◌∷◌, map, slice_get, option_and_then, refl, sym, ap, subst, ◌∙◌}
use Rattle.std.specs.Prelude.{is_some, Contains}
use Rattle.std.specs.Bool.{OnTrue, OnFalse}
use Rattle.cc_meaning_program.specs.OwnMembers.{members_of}
use Rattle.cc_meaning_program.specs.Searches.{NoneOf}
use Rattle.cc_meaning_program.specs.declared.outline.Outline.{Outline}
use Rattle.cc_meaning_program.specs.Outlines.{definition_number}
use Rattle.cc_owners.specs.declared.linked.Linked.{Linked}
use Rattle.cc_owners.specs.Known.{IsKnown, Has}
use Rattle.cc_owners.specs.Members.{member_of}
use Rattle.cc_owners.specs.Places.{place_among, place_of}
use Rattle.cc_owners.proofs.Indexing.{lacks_all}

module _ (linked : Linked) (known : IsKnown linked) (class : ℕ) (name : List ℕ) (outline : Outline) (named : slice_get linked.names.now class ≡ Some name) (there : slice_get linked.outlines.now class ≡ Some outline) where
  members_are : members_of linked.ids.now linked.classes.now name ≡ option_and_then (slice_get linked.classes.now) outline.definition
  unfolding members_of definition_number
  members_are = ap (option_and_then (slice_get linked.classes.now)) (sym (known.outlines.each class name outline named there).definition)

  pub place_there : (row definition : ℕ) (place : Option ℕ) → outline.definition ≡ Some definition →
      place ≡ place_among linked.ids.now linked.table (member_of linked.ids.now linked.table row) (slice_get linked.classes.now definition) →
      place ≡ place_of linked.ids.now linked.classes.now linked.table name (member_of linked.ids.now linked.table row)
  unfolding place_of
  place_there row definition place is found =
      found ∙ sym (ap (place_among linked.ids.now linked.table (member_of linked.ids.now linked.table row)) (members_are ∙ ap (option_and_then (slice_get linked.classes.now)) is))

  pub place_nowhere : (row : ℕ) → outline.definition ≡ None → None ≡ place_of linked.ids.now linked.classes.now linked.table name (member_of linked.ids.now linked.table row)
  unfolding place_of place_among
  place_nowhere row is = sym (ap (place_among linked.ids.now linked.table (member_of linked.ids.now linked.table row)) (members_are ∙ ap (option_and_then (slice_get linked.classes.now)) is))

pub has : (linked : Linked) (row place : ℕ) (name : List ℕ) → Some place ≡ place_of linked.ids.now linked.classes.now linked.table name (member_of linked.ids.now linked.table row) → Has linked row name
has linked row place name e = subst (λ found. is_some found ≡ true) e refl

pub has_not : (linked : Linked) (row : ℕ) (name : List ℕ) → None ≡ place_of linked.ids.now linked.classes.now linked.table name (member_of linked.ids.now linked.table row) → ¬ Has linked row name
has_not linked row name e held = let no : false ≡ true = subst (λ found. is_some found ≡ true) (sym e) held in cc

pub nowhere : (linked : Linked) → IsKnown linked → (row : ℕ) → (Contains (map (member_of linked.ids.now linked.table) linked.defined.now) (member_of linked.ids.now linked.table row) → ⊥) → (class : List ℕ) → ¬ Has linked row class
nowhere linked known row away class = has_not linked row class (sym (lacks_all linked.ids.now linked.classes.now linked.table linked.defined.now row known.defined away class))

pub none_of_all : {A : Type 0} (is_so : A → Type 0) → ((x : A) → ¬ is_so x) → (xs : List A) → NoneOf is_so xs
none_of_all is_so none [] = tt
none_of_all is_so none (x ∷ xs) = (none x, none_of_all is_so none xs)

pub turned : (tested : Bool) {P Q : Type 0} → (P → Q) → OnFalse tested P → OnTrue (not tested) Q
turned true on held = tt
turned false on held = on held
