-- What a row of methods names, from what was found.
use Rattle.std.proofs.Common.{◌≡◌, inl, inr, ℕ, ◌+◌, Bool, true, false, List, [], ◌∷◌, ◌++◌, length, Option, Some, None, slice_get, refl, sym, ap, subst, ◌∙◌, arith}
use Rattle.std.specs.Prelude.{is_some, find}
use Rattle.std.specs.List.{flat_map}
use Rattle.std.specs.Str.{bytes_eq}
use Rattle.std.proofs.lemmas.Option.{slice_get_within}
use Rattle.cc_meaning.specs.declared.file.Ids.{Ids}
use Rattle.cc_meaning.specs.declared.file.MethodRow.{MethodRow}
use Rattle.cc_meaning.specs.declared.file.RawClass.{RawClass}
use Rattle.cc_meaning.specs.declared.file.RawMethod.{RawMethod}
use Rattle.cc_meaning.specs.declared.program.ClassKind.{ClassKind}
use Rattle.cc_meaning.specs.declared.program.ClassKind.TheVariants.{File, BuiltIn, Outside, OutsideError, Array}
use Rattle.cc_built_in.specs.BuiltInMethods.{BuiltInMethod, built_in_member}
use Rattle.cc_meaning_program.specs.Named.{type_name, method_member}
use Rattle.cc_meaning_program.specs.Ancestry.{kind_of_class, interfaces_named, Ancestry, Superinterfaces}
use Rattle.cc_meaning_program.specs.OwnMembers.{members_of, method_among, method_defined, built_in_by_kind, built_in_methods_of, method_listed}
use Rattle.cc_meaning_program.specs.Naming.{RowNamesMethod}
use Rattle.cc_meaning_program.specs.Owners.{IsBeyond, DefinesMethod, inherits, Lists, MethodOwner}
use Rattle.cc_meaning_program.specs.Searches.{First, NoneOf, MethodOrder}
use Rattle.cc_meaning_program.specs.declared.owner.MethodOwner.{MethodOwner as Owner}
use Rattle.cc_meaning_program.specs.declared.owner.MethodOwner.TheVariants as method
use Rattle.cc_meaning_program.specs.OwnerNumbers.{method_in, method_placed, IsMethodOwner, AreMethodOwners}
use Rattle.cc_owners.specs.declared.linked.Linked.{Linked}
use Rattle.cc_owners.specs.declared.members.MemberTable.TheVariants.{Methods}
use Rattle.cc_owners.specs.declared.place.Found.{Found}
use Rattle.cc_owners.specs.Beyond.{IsBeyondOwner}
use Rattle.cc_owners.specs.Entered.{IsFoundInMethodOrder}
use Rattle.cc_owners.specs.Known.{Has}
use Rattle.cc_owners.specs.Members.{member_of}
use Rattle.cc_owners.specs.Places.{rows_of, place_among, place_of}
use Rattle.cc_owners.proofs.Climbing.{ancestry_once, from_there}
use Rattle.cc_owners.proofs.Inheriting.{none_alike, first_alike, listed_stands}
use Rattle.cc_owners.proofs.Lists.{Among, first, later, parted, not_this, length_both, pushed}
use Rattle.cc_owners.proofs.Positions.{Stands, found_at}

-- ---- a method that the file defines, by its place

abbrev StandsIn : Option RawMethod → Option RawClass → Option ℕ → Type 0
StandsIn found class None = found ≡ None
StandsIn found class (Some place) = (raw : RawMethod) × (found ≡ Some raw) × (method_in place class ≡ Some raw)

stands_among : (ids : Ids) (member : List ℕ) (class : Option RawClass) → StandsIn (method_among ids member class) class (place_among ids Methods member class)
unfolding method_among place_among rows_of member_of method_in
stands_among ids member None = refl
stands_among ids member (Some class) = from (place_among ids Methods member (Some class)) (found_at (λ row. bytes_eq (method_member ids row) member) (λ (m : RawMethod). m.row) class.methods)
  where
    from : (place : Option ℕ) → Stands (method_among ids member (Some class)) class.methods place → StandsIn (method_among ids member (Some class)) (Some class) place
    from None is = is
    from (Some place) is = is

stands_in : (ids : Ids) (classes : List RawClass) (class member : List ℕ) → StandsIn (method_defined ids classes class member) (members_of ids classes class) (place_of ids classes Methods class member)
unfolding method_defined place_of
stands_in ids classes class member = stands_among ids member (members_of ids classes class)

defined_at : (ids : Ids) (classes : List RawClass) (class member : List ℕ) (place : ℕ) → place_of ids classes Methods class member ≡ Some place →
    (raw : RawMethod) × (method_defined ids classes class member ≡ Some raw) × (method_placed ids classes class place ≡ Some raw)
unfolding method_placed
defined_at ids classes class member place is = subst (StandsIn (method_defined ids classes class member) (members_of ids classes class)) is (stands_in ids classes class member)

some_alike : (found : Option RawMethod) (class : Option RawClass) (place : Option ℕ) → StandsIn found class place → is_some place ≡ is_some found
some_alike found class None is = sym (ap is_some is)
some_alike found class (Some place) (raw, is, there) = sym (ap is_some is)

pub first_is_among : {A : Type 0} {is_so : A → Type 0} (xs : List A) (x : A) → First is_so xs x → Among xs x
first_is_among _ x (First.here so) = first
first_is_among _ x (First.later {xs = xs} not rest) = later (first_is_among xs x rest)

pub among_behind : {A : Type 0} (xs ys : List A) (x : A) → Among ys x → Among (xs ++ ys) x
among_behind [] ys x held = held
among_behind (y ∷ xs) ys x held = later (among_behind xs ys x held)

among_front : {A : Type 0} (xs ys : List A) (x : A) → Among xs x → Among (xs ++ ys) x
among_front _ ys x (first {xs = xs}) = first
among_front _ ys x (later {xs = xs} held) = later (among_front xs ys x held)

-- a class that inherits nothing lists nothing
nothing_by_kind : (kind : ClassKind) (class : List ℕ) (test : BuiltInMethod → Bool) → inherits kind ≡ false → find test (built_in_by_kind kind class) ≡ None
unfolding inherits built_in_by_kind
nothing_by_kind File class test e = refl
nothing_by_kind BuiltIn class test e = absurd cc
nothing_by_kind Outside class test e = refl
nothing_by_kind OutsideError class test e = refl
nothing_by_kind Array class test e = absurd cc

lists_nothing : (ids : Ids) (class member : List ℕ) → inherits (kind_of_class ids class) ≡ false → method_listed ids class member ≡ None
unfolding method_listed built_in_methods_of
lists_nothing ids class member e = nothing_by_kind (kind_of_class ids class) class (λ (listed : BuiltInMethod). bytes_eq (built_in_member listed) member) e

module _ (linked : Linked) (row : ℕ) (methods : linked.table ≡ Methods) (stated : MethodRow) (there : slice_get linked.ids.now.methods row ≡ Some stated) (order : List (List ℕ)) (ancestry : Ancestry linked.ids.now (type_name linked.ids.now stated.class) order) where
  abbrev ids : Ids
  ids = linked.ids.now

  abbrev classes : List RawClass
  classes = linked.classes.now

  abbrev member : List ℕ
  member = method_member ids row

  place_is : (class : List ℕ) → place_of ids classes linked.table class (member_of ids linked.table row) ≡ place_of ids classes Methods class member
  unfolding member_of
  place_is class = ap (λ t. place_of ids classes t class (member_of ids t row)) methods

  alike : (class : List ℕ) → is_some (place_of ids classes linked.table class (member_of ids linked.table row)) ≡ is_some (method_defined ids classes class member)
  alike class = ap is_some (place_is class) ∙ some_alike (method_defined ids classes class member) (members_of ids classes class) (place_of ids classes Methods class member) (stands_in ids classes class member)

  defines : (class : List ℕ) → Has linked row class → DefinesMethod ids classes member class
  defines class held = sym (alike class) ∙ held

  undefines : (class : List ℕ) → DefinesMethod ids classes member class → Has linked row class
  undefines class held = alike class ∙ held

  searched : (interfaces : List (List ℕ)) → Superinterfaces ids (flat_map (interfaces_named ids) order) interfaces → MethodOrder ids (type_name ids stated.class) (order ++ interfaces)
  searched interfaces above = record { classes = order; ancestry = ancestry; interfaces = interfaces; above = above; ordered = refl }

  pub of_file : (found : Found) → IsFoundInMethodOrder linked row order (Some found) → IsMethodOwner ids classes linked.names.now row (method.File found.class found.place)
  of_file found (interfaces, above, f) =
      let (raw, defined, placed) = defined_at ids classes f.owner member found.place (sym (place_is f.owner) ∙ f.placed) in
      IsMethodOwner.file f.there
      (record { stated = stated; there = there; within = refl; owned = MethodOwner.defined (searched interfaces above) (first_alike (Has linked row) (DefinesMethod ids classes member) (order ++ interfaces) f.owner defines undefines f.first) })
      defined placed

  module _ (interfaces : List (List ℕ)) (above : Superinterfaces ids (flat_map (interfaces_named ids) order) interfaces) (none : NoneOf (Has linked row) (order ++ interfaces)) where
    clear : NoneOf (DefinesMethod ids classes member) (order ++ interfaces)
    clear = none_alike (Has linked row) (DefinesMethod ids classes member) (order ++ interfaces) (λ class held so. undefines class so) none

    lacking : (found : Option RawMethod) → ¬ (is_some found ≡ true) → found ≡ None
    lacking None not = refl
    lacking (Some raw) not = absurd (not refl)

    undefined : (class : List ℕ) → Among order class → method_defined ids classes class member ≡ None
    undefined class held = lacking (method_defined ids classes class member) (not_this (DefinesMethod ids classes member) (order ++ interfaces) class (among_front order interfaces class held) clear)

    -- what is above the first class that isn't of the file
    record Upward (beyond : List ℕ) (higher : List (List ℕ)) : Type 0 where
      rest : List (List ℕ)
      is : higher ≡ beyond ∷ rest
      among : (class : List ℕ) → Among higher class → Among order class

    upward : (beyond : List ℕ) (higher : List (List ℕ)) → IsBeyond ids (type_name ids stated.class) beyond → Ancestry ids beyond higher → Upward beyond higher
    upward beyond higher is_beyond uphill =
        let same : is_beyond.classes ≡ order = ancestry_once ids (type_name ids stated.class) is_beyond.classes order is_beyond.ancestry ancestry in
        let p = parted order beyond (subst (λ l. Among l beyond) same (first_is_among is_beyond.classes beyond is_beyond.first)) in
        let higher_is : higher ≡ beyond ∷ p.behind = ancestry_once ids beyond higher (beyond ∷ p.behind) uphill (from_there ids (type_name ids stated.class) order p.before beyond p.behind ancestry p.is) in
        record {
          rest = p.behind;
          is = higher_is;
          among = λ class held. subst (λ l. Among l class) (sym p.is) (among_behind p.before (beyond ∷ p.behind) class (subst (λ l. Among l class) higher_is held));
        }

    names_row : (owner : List ℕ) → MethodOwner ids classes (type_name ids stated.class) member owner → RowNamesMethod ids classes row owner member
    names_row owner owned = record { stated = stated; there = there; within = refl; owned = owned }

    unlisted : (beyond : List ℕ) (rest : List (List ℕ)) → NoneOf (Lists ids beyond member) (beyond ∷ rest) → method_listed ids beyond member ≡ None
    unlisted beyond rest lists = from (inherits (kind_of_class ids beyond)) refl
      where
        from : (inherited : Bool) → inherits (kind_of_class ids beyond) ≡ inherited → method_listed ids beyond member ≡ None
        from false e = lists_nothing ids beyond member e
        from true e = absent (method_listed ids beyond member) (λ so. lists.0 (record { inherited = e; listed = so; own = λ constructor. refl }))
          where
            absent : (found : Option BuiltInMethod) → ¬ (is_some found ≡ true) → found ≡ None
            absent None not = refl
            absent (Some x) not = absurd (not refl)

    pub not_of_file : (owner : Owner) → IsBeyondOwner linked (type_name ids stated.class) member owner → IsMethodOwner ids classes linked.names.now row owner
    not_of_file _ (IsBeyondOwner.listed {beyond = beyond} {owner = owner} {above = higher} {place = place} is_beyond uphill found named placed) =
        let u = upward beyond higher is_beyond uphill in
        let (x, listed, stands) = listed_stands ids owner member place placed in
        IsMethodOwner.built_in named (names_row owner (MethodOwner.listed (searched interfaces above) clear is_beyond uphill found)) (undefined owner (u.among owner (first_is_among higher owner found))) listed stands
    not_of_file _ (IsBeyondOwner.outside {beyond = beyond} {above = higher} is_beyond uphill lists named) =
        let u = upward beyond higher is_beyond uphill in
        IsMethodOwner.outside named (names_row beyond (MethodOwner.outside (searched interfaces above) clear is_beyond uphill lists)) (undefined beyond (u.among beyond (subst (λ l. Among l beyond) (sym u.is) first)))
        (unlisted beyond u.rest (subst (NoneOf (Lists ids beyond member)) u.is lists))

pub table_member : (linked : Linked) (row : ℕ) → linked.table ≡ Methods → member_of linked.ids.now linked.table row ≡ method_member linked.ids.now row
unfolding member_of
table_member linked row methods = ap (λ t. member_of linked.ids.now t row) methods

-- ---- row by row

pub record Owns (ids : Ids) (classes : List RawClass) (names : List (List ℕ)) (row : ℕ) (owners : List Owner) : Type 0 where
  pub all : length owners ≡ row
  pub each : (at : ℕ) (owner : Owner) → slice_get owners at ≡ Some owner → IsMethodOwner ids classes names at owner

pub owns_none : (ids : Ids) (classes : List RawClass) (names : List (List ℕ)) (owners : List Owner) → owners ≡ [] → Owns ids classes names 0 owners
owns_none ids classes names owners empty = subst (Owns ids classes names 0) (sym empty) (record { all = refl; each = λ at owner there. absurd (let below = slice_get_within [] at owner there in omega arith) })

pub owns_more : (ids : Ids) (classes : List RawClass) (names : List (List ℕ)) (row : ℕ) (owners after : List Owner) (owner : Owner) → after ≡ owners ++ owner ∷ [] → IsMethodOwner ids classes names row owner → Owns ids classes names row owners →
    Owns ids classes names (row + 1) after
owns_more ids classes names row owners after owner is mine so_far = subst (Owns ids classes names (row + 1)) (sym is) (record {
  all = length_both owners (owner ∷ []) ∙ ap (λ n. n + 1) so_far.all;
  each = λ at other there. elim (pushed owners owner at other there) [
    | inl old ↦ so_far.each at other old
    | inr (last, same) ↦ subst (λ k. IsMethodOwner ids classes names k other) (sym (last ∙ so_far.all)) (subst (IsMethodOwner ids classes names row) same mine)
  ];
})

pub are_owners : (ids : Ids) (classes : List RawClass) (names : List (List ℕ)) (row : ℕ) (owners : List Owner) → row ≡ length ids.methods → Owns ids classes names row owners → AreMethodOwners ids classes names owners
are_owners _ _ _ row owners whole o = record { all = o.all ∙ whole; each = o.each }
