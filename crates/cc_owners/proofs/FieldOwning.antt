-- What a row of fields names, from what was found.
use Rattle.std.proofs.Common.{◌≡◌, inl, inr, ℕ, ◌+◌, true, List, [], ◌∷◌, ◌++◌, length, Option, Some, None, slice_get, refl, sym, ap, subst, ◌∙◌, arith}
use Rattle.std.specs.Prelude.{is_some}
use Rattle.std.specs.Str.{bytes_eq}
use Rattle.std.proofs.lemmas.Option.{slice_get_within}
use Rattle.cc_meaning.specs.declared.file.FieldRow.{FieldRow}
use Rattle.cc_meaning.specs.declared.file.Ids.{Ids}
use Rattle.cc_meaning.specs.declared.file.RawClass.{RawClass}
use Rattle.cc_meaning.specs.declared.file.RawField.{RawField}
use Rattle.cc_meaning_program.specs.Named.{type_name, field_member}
use Rattle.cc_meaning_program.specs.Ancestry.{Ancestry}
use Rattle.cc_meaning_program.specs.OwnMembers.{members_of, field_among, field_defined}
use Rattle.cc_meaning_program.specs.Owners.{DefinesField, FieldOwner}
use Rattle.cc_meaning_program.specs.Searches.{First}
use Rattle.cc_meaning_program.specs.declared.owner.FieldOwner.{FieldOwner as Owner}
use Rattle.cc_meaning_program.specs.declared.owner.FieldOwner.TheVariants as field
use Rattle.cc_meaning_program.specs.OwnerNumbers.{field_in, field_placed, IsFieldOwner, AreFieldOwners}
use Rattle.cc_owners.specs.declared.linked.Linked.{Linked}
use Rattle.cc_owners.specs.declared.members.MemberTable.TheVariants.{Fields}
use Rattle.cc_owners.specs.declared.place.Found.{Found}
use Rattle.cc_owners.specs.Beyond.{IsUndefined, IsFirstBeyond}
use Rattle.cc_owners.specs.Fields.{WithInterfaces, IsFoundInFieldOrder}
use Rattle.cc_owners.specs.Known.{Has}
use Rattle.cc_owners.specs.Members.{member_of}
use Rattle.cc_owners.specs.Places.{rows_of, place_among, place_of}
use Rattle.cc_owners.proofs.FieldChains.{field_order}
use Rattle.cc_owners.proofs.Inheriting.{none_alike, first_alike}
use Rattle.cc_owners.proofs.Lists.{Among, first, later, not_this, first_at, length_both, pushed}
use Rattle.cc_owners.proofs.MethodOwning.{first_is_among, among_behind}
use Rattle.cc_owners.proofs.Positions.{Stands, found_at}

-- ---- a field that the file defines, by its place

abbrev StandsIn : Option RawField → Option RawClass → Option ℕ → Type 0
StandsIn found class None = found ≡ None
StandsIn found class (Some place) = (raw : RawField) × (found ≡ Some raw) × (field_in place class ≡ Some raw)

stands_among : (ids : Ids) (member : List ℕ) (class : Option RawClass) → StandsIn (field_among ids member class) class (place_among ids Fields member class)
unfolding field_among place_among rows_of member_of field_in
stands_among ids member None = refl
stands_among ids member (Some class) = from (place_among ids Fields member (Some class)) (found_at (λ row. bytes_eq (field_member ids row) member) (λ (f : RawField). f.row) class.fields)
  where
    from : (place : Option ℕ) → Stands (field_among ids member (Some class)) class.fields place → StandsIn (field_among ids member (Some class)) (Some class) place
    from None is = is
    from (Some place) is = is

stands_in : (ids : Ids) (classes : List RawClass) (class member : List ℕ) → StandsIn (field_defined ids classes class member) (members_of ids classes class) (place_of ids classes Fields class member)
unfolding field_defined place_of
stands_in ids classes class member = stands_among ids member (members_of ids classes class)

defined_at : (ids : Ids) (classes : List RawClass) (class member : List ℕ) (place : ℕ) → place_of ids classes Fields class member ≡ Some place →
    (raw : RawField) × (field_defined ids classes class member ≡ Some raw) × (field_placed ids classes class place ≡ Some raw)
unfolding field_placed
defined_at ids classes class member place is = subst (StandsIn (field_defined ids classes class member) (members_of ids classes class)) is (stands_in ids classes class member)

some_alike : (found : Option RawField) (class : Option RawClass) (place : Option ℕ) → StandsIn found class place → is_some place ≡ is_some found
some_alike found class None is = sym (ap is_some is)
some_alike found class (Some place) (raw, is, there) = sym (ap is_some is)

-- a class that is searched has its fields searched for
in_order : (ids : Ids) (order searched : List (List ℕ)) (class : List ℕ) → WithInterfaces ids order searched → Among order class → Among searched class
in_order ids _ _ class WithInterfaces.none held = elim held [ ]
in_order ids _ _ class (WithInterfaces.next upper on) first = first
in_order ids _ _ class (WithInterfaces.next {rest = rest} {interfaces = i} {behind = b} upper on) (later held) = later (among_behind i b class (in_order ids rest b class on held))

module _ (linked : Linked) (row : ℕ) (fields : linked.table ≡ Fields) (stated : FieldRow) (there : slice_get linked.ids.now.fields row ≡ Some stated) (order : List (List ℕ)) (ancestry : Ancestry linked.ids.now (type_name linked.ids.now stated.class) order) where
  abbrev ids : Ids
  ids = linked.ids.now

  abbrev classes : List RawClass
  classes = linked.classes.now

  abbrev member : List ℕ
  member = field_member ids row

  place_is : (class : List ℕ) → place_of ids classes linked.table class (member_of ids linked.table row) ≡ place_of ids classes Fields class member
  unfolding member_of
  place_is class = ap (λ t. place_of ids classes t class (member_of ids t row)) fields

  alike : (class : List ℕ) → is_some (place_of ids classes linked.table class (member_of ids linked.table row)) ≡ is_some (field_defined ids classes class member)
  alike class = ap is_some (place_is class) ∙ some_alike (field_defined ids classes class member) (members_of ids classes class) (place_of ids classes Fields class member) (stands_in ids classes class member)

  defines : (class : List ℕ) → Has linked row class → DefinesField ids classes member class
  defines class held = sym (alike class) ∙ held

  undefines : (class : List ℕ) → DefinesField ids classes member class → Has linked row class
  undefines class held = alike class ∙ held

  pub of_file : (found : Found) → IsFoundInFieldOrder linked row order (Some found) → IsFieldOwner ids classes linked.names.now row (field.File found.class found.place)
  of_file found (searched, above, f) =
      let (raw, defined, placed) = defined_at ids classes f.owner member found.place (sym (place_is f.owner) ∙ f.placed) in
      IsFieldOwner.file f.there
      (record { stated = stated; there = there; within = refl; owned = FieldOwner.defined (field_order ids (type_name ids stated.class) order searched ancestry above) (first_alike (Has linked row) (DefinesField ids classes member) searched f.owner defines undefines f.first) })
      defined placed

  lacking : (found : Option RawField) → ¬ (is_some found ≡ true) → found ≡ None
  lacking None not = refl
  lacking (Some raw) not = absurd (not refl)

  pub not_of_file : IsFoundInFieldOrder linked row order None → (place class : ℕ) (b : IsFirstBeyond ids order place) → slice_get linked.names.now class ≡ Some b.name → IsFieldOwner ids classes linked.names.now row (field.Beyond class)
  not_of_file (searched, above, none) place class b named =
      let clear = none_alike (Has linked row) (DefinesField ids classes member) searched (λ class held so. undefines class so) none in
      let first_beyond : First (IsUndefined ids) order b.name = first_at (IsUndefined ids) order place b.name b.there b.before b.undefined in
      IsFieldOwner.beyond named
      (record { stated = stated; there = there; within = refl; owned = FieldOwner.beyond (field_order ids (type_name ids stated.class) order searched ancestry above) clear (record { classes = order; ancestry = ancestry; first = first_beyond }) })
      (lacking (field_defined ids classes b.name member) (not_this (DefinesField ids classes member) searched b.name (in_order ids order searched b.name above (first_is_among order b.name first_beyond)) clear))

-- ---- row by row

pub record Owns (ids : Ids) (classes : List RawClass) (names : List (List ℕ)) (row : ℕ) (owners : List Owner) : Type 0 where
  pub all : length owners ≡ row
  pub each : (at : ℕ) (owner : Owner) → slice_get owners at ≡ Some owner → IsFieldOwner ids classes names at owner

pub owns_none : (ids : Ids) (classes : List RawClass) (names : List (List ℕ)) (owners : List Owner) → owners ≡ [] → Owns ids classes names 0 owners
owns_none ids classes names owners empty = subst (Owns ids classes names 0) (sym empty) (record { all = refl; each = λ at owner there. absurd (let below = slice_get_within [] at owner there in omega arith) })

pub owns_more : (ids : Ids) (classes : List RawClass) (names : List (List ℕ)) (row : ℕ) (owners after : List Owner) (owner : Owner) → after ≡ owners ++ owner ∷ [] → IsFieldOwner ids classes names row owner → Owns ids classes names row owners →
    Owns ids classes names (row + 1) after
owns_more ids classes names row owners after owner is mine so_far = subst (Owns ids classes names (row + 1)) (sym is) (record {
  all = length_both owners (owner ∷ []) ∙ ap (λ n. n + 1) so_far.all;
  each = λ at other there. elim (pushed owners owner at other there) [
    | inl old ↦ so_far.each at other old
    | inr (last, same) ↦ subst (λ k. IsFieldOwner ids classes names k other) (sym (last ∙ so_far.all)) (subst (IsFieldOwner ids classes names row) same mine)
  ];
})

pub are_owners : (ids : Ids) (classes : List RawClass) (names : List (List ℕ)) (row : ℕ) (owners : List Owner) → row ≡ length ids.fields → Owns ids classes names row owners → AreFieldOwners ids classes names owners
are_owners _ _ _ row owners whole o = record { all = o.all ∙ whole; each = o.each }
