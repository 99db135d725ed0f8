-- The first class upward that isn't of the file, and what it inherits.
use Rattle.std.proofs.Common.{◌≡◌, ℕ, zero, suc, ◌+◌, ◌<◌, Bool, true, false, cond, List, [], ◌∷◌, ◌++◌, length, map, take, drop, Option, Some, None, slice_get, option_map, refl, sym, ap, subst, ◌∙◌, arith}
use Rattle.std.specs.Prelude.{position, is_some, find, Contains, MatchOption}
use Rattle.std.specs.Str.{bytes_eq}
use Rattle.std.proofs.lemmas.Option.{slice_get_within}
use Rattle.std.proofs.lemmas.Slice.Eq.{bytes_eq-Decides}
use Rattle.cc_meaning.specs.declared.file.ClassRow.{ClassRow}
use Rattle.cc_meaning.specs.declared.file.Ids.{Ids}
use Rattle.cc_meaning.specs.declared.file.RawClass.{RawClass}
use Rattle.cc_meaning.specs.declared.program.ClassKind.{ClassKind}
use Rattle.cc_meaning.specs.declared.program.ClassKind.TheVariants.{File, BuiltIn, Outside, OutsideError, Array}
use Rattle.cc_meaning.specs.BuiltIn.{is_built_in}
use Rattle.cc_meaning_dex.specs.Descriptors.{begins_with}
use Rattle.cc_built_in.specs.BuiltInMethods.{BuiltInMethod, built_in_member, array_methods, methods_of_class}
use Rattle.cc_meaning_program.specs.ClassFaults.{AreSound, HasNoSuperclass, of_built_in}
use Rattle.cc_meaning_program.specs.Definitions.{Defines}
use Rattle.cc_meaning_program.specs.Named.{type_name}
use Rattle.cc_meaning_program.specs.Ancestry.{definition_of, is_defined, outside_kind, kind_of_class, stated_superclass, superclass_by_kind, superclass_named, Ancestry, top, up}
use Rattle.cc_meaning_program.specs.OwnMembers.{built_in_by_kind, built_in_methods_of, method_listed, is_constructor}
use Rattle.cc_meaning_program.specs.Owners.{inherits, Lists}
use Rattle.cc_meaning_program.specs.Searches.{First, NoneOf}
use Rattle.cc_meaning_program.specs.Outlines.{AreNumbersOf, definition_number}
use Rattle.cc_owners.specs.declared.linked.Linked.{Linked}
use Rattle.cc_owners.specs.declared.place.Found.{Found}
use Rattle.cc_owners.specs.Beyond.{listed_place, IsUndefined, Listed, IsFoundListed, IsListed}
use Rattle.cc_owners.proofs.Climbing.{ancestry_once, from_there}
use Rattle.cc_owners.proofs.Lists.{Among, first, later, some_is, parted, length_both}
use Rattle.cc_owners.proofs.Positions.{Stands, found_here, found_at}

pub none_if : {A : Type 0} (found : Option A) → is_some found ≡ false → found ≡ None
none_if None e = refl
none_if (Some x) e = absurd cc

pub some_if : {A : Type 0} (found : Option A) → is_some found ≡ true → found ≡ None → ⊥
some_if None e is = absurd cc
some_if (Some x) e is = absurd cc

-- ---- defined or not

passes_test : {A : Type 0} (test : A → Bool) (xs : List A) (x : A) → find test xs ≡ Some x → test x ≡ true
passes_test test [] x is = absurd cc
passes_test {A = A} test (y ∷ ys) x is = from (test y) refl is (λ rest. passes_test test ys x rest)
  where
    from : (tested : Bool) → test y ≡ tested → cond tested (Some y) (find test ys) ≡ Some x → (find test ys ≡ Some x → test x ≡ true) → test x ≡ true
    from true e is rest = let same : y ≡ x = some_is y x is in subst (λ z. test z ≡ true) same e
    from false e is rest = rest is

-- by the number of the first definition
pub undefined_if : (ids : Ids) (name : List ℕ) → definition_number ids name ≡ None → is_defined ids name ≡ false
unfolding is_defined definition_of definition_number
undefined_if ids name none = ap is_some (subst (Stands (find (λ (stated : ClassRow). bytes_eq (type_name ids stated.class) name) ids.classes) ids.classes) none (found_here (λ (stated : ClassRow). bytes_eq (type_name ids stated.class) name) ids.classes))

pub defined_if : (ids : Ids) (name : List ℕ) (number : ℕ) → definition_number ids name ≡ Some number → ¬ IsUndefined ids name
unfolding is_defined definition_of definition_number
defined_if ids name number some undefined =
    let (x, found, there) = subst (Stands (find (λ (stated : ClassRow). bytes_eq (type_name ids stated.class) name) ids.classes) ids.classes) some (found_here (λ (stated : ClassRow). bytes_eq (type_name ids stated.class) name) ids.classes) in
    let e : true ≡ false = sym (ap is_some found) ∙ undefined in
    cc

pub defined_unless : (ids : Ids) (name : List ℕ) (definition : Option ℕ) → definition ≡ definition_number ids name → (definition ≡ None → ⊥) → ¬ IsUndefined ids name
defined_unless ids name None e some = absurd (some refl)
defined_unless ids name (Some number) e some = defined_if ids name number (sym e)

-- the row of a class's first definition, by its number
defines : (ids : Ids) (name : List ℕ) (stated : ClassRow) → definition_of ids name ≡ Some stated → (number : ℕ) × (slice_get ids.classes number ≡ Some stated) × Defines ids number name
unfolding definition_of
defines ids name stated is = from (position (λ (row : ClassRow). bytes_eq (type_name ids row.class) name) ids.classes) (found_here (λ (row : ClassRow). bytes_eq (type_name ids row.class) name) ids.classes)
  where
    from : (place : Option ℕ) → Stands (definition_of ids name) ids.classes place → (number : ℕ) × (slice_get ids.classes number ≡ Some stated) × Defines ids number name
    from None nowhere = absurd (let e : Some stated ≡ None = sym is ∙ nowhere in cc)
    from (Some number) (x, found, there) =
        let same : x ≡ stated = some_is x stated (sym found ∙ is) in
        let read : slice_get ids.classes number ≡ Some stated = there ∙ ap Some same in
        (number, read, record { stated = stated; there = read; named = (bytes_eq-Decides (type_name ids stated.class) name).0 (passes_test (λ (row : ClassRow). bytes_eq (type_name ids row.class) name) ids.classes stated is) })

none_stated : (ids : Ids) (superclass : Option ℕ) → option_map (type_name ids) superclass ≡ None → superclass ≡ None
none_stated ids None e = refl
none_stated ids (Some type) e = absurd cc

-- a class without a superclass isn't of the file
top_undefined : (ids : Ids) (classes : List RawClass) → AreSound ids classes → (name : List ℕ) → superclass_named ids name ≡ None → is_defined ids name ≡ false
unfolding is_defined superclass_named superclass_by_kind stated_superclass kind_of_class
top_undefined ids classes sound name none = from (definition_of ids name) refl
  where
    from : (found : Option ClassRow) → definition_of ids name ≡ found → is_some found ≡ false
    from None e = refl
    from (Some stated) e = absurd (let (number, there, defined) = defines ids name stated e in by_name (is_built_in name) refl number there defined)
      where
        by_name : (built_in : Bool) → is_built_in name ≡ built_in → (number : ℕ) → slice_get ids.classes number ≡ Some stated → Defines ids number name → ⊥
        by_name true is number there defined = sound.distinct number (of_built_in defined is)
        by_name false is number there defined =
            let kind : kind_of_class ids name ≡ File = ap (λ tested. cond tested BuiltIn (cond (is_defined ids name) File (cond (begins_with 91 name) Array (outside_kind name)))) is
            ∙ ap (λ found. cond (is_some found) File (cond (begins_with 91 name) Array (outside_kind name))) e in
            let stated_none : option_map (type_name ids) stated.superclass ≡ None = sym (ap (superclass_by_kind ids name) kind ∙ ap (stated_superclass ids) e) ∙ none in
            let lacks : HasNoSuperclass ids stated.superclass = subst (HasNoSuperclass ids) (sym (none_stated ids stated.superclass stated_none)) tt in
            sound.extended number (record { stated = stated; there = there; lacks = lacks })

-- so upward there is one that isn't
pub some_undefined : (ids : Ids) (classes : List RawClass) → AreSound ids classes → (name : List ℕ) (all : List (List ℕ)) → Ancestry ids name all → NoneOf (IsUndefined ids) all → ⊥
some_undefined ids classes sound name _ (top e) none = none.0 (top_undefined ids classes sound name e)
some_undefined ids classes sound name _ (up {above = a} {rest = r} e rest) none = some_undefined ids classes sound a r rest none.1

pub not_above : (ids : Ids) (name : List ℕ) (above : List (List ℕ)) → Ancestry ids name (name ∷ above) → Among above name → ⊥
not_above ids name above ancestry met =
    let p = parted above name met in
    let again = from_there ids name (name ∷ above) (name ∷ p.before) name p.behind ancestry (ap (λ l. name ∷ l) p.is) in
    let same : name ∷ above ≡ name ∷ p.behind = ancestry_once ids name (name ∷ above) (name ∷ p.behind) ancestry again in
    let tails : above ≡ p.behind = cc in
    let parts : length above ≡ length p.before + suc (length p.behind) = ap length p.is ∙ length_both p.before (name ∷ p.behind) in
    let long : length above ≡ length p.behind = ap length tails in
    omega arith

-- ---- built-in classes

methods_by_kind : (ids : Ids) (name : List ℕ) (kind : ClassKind) → kind ≡ kind_of_class ids name → built_in_methods_of ids name ≡ built_in_by_kind kind name
unfolding built_in_methods_of
methods_by_kind ids name kind e = ap (λ k. built_in_by_kind k name) (sym e)

pub place_listed : (ids : Ids) (name member : List ℕ) (kind : ClassKind) (members : List (List ℕ)) (place : Option ℕ) → kind ≡ kind_of_class ids name → members ≡ map built_in_member (built_in_by_kind kind name) →
    place ≡ position (λ listed. bytes_eq listed member) members → place ≡ listed_place ids name member
unfolding listed_place
place_listed ids name member kind members place e are is =
    is ∙ ap (position (λ listed. bytes_eq listed member)) (are ∙ ap (map built_in_member) (sym (methods_by_kind ids name kind e)))

pub of_class : (name : List ℕ) → methods_of_class name ≡ built_in_by_kind BuiltIn name
unfolding built_in_by_kind
of_class name = refl

pub of_array : (name : List ℕ) → array_methods name ≡ built_in_by_kind Array name
unfolding built_in_by_kind
of_array name = refl

pub nothing_listed : (ids : Ids) (name member : List ℕ) (kind : ClassKind) → kind ≡ kind_of_class ids name → (kind ≡ BuiltIn → ⊥) → (kind ≡ Array → ⊥) → None ≡ listed_place ids name member
unfolding built_in_by_kind
nothing_listed ids name member File e no_class no_array = place_listed ids name member File [] None e refl refl
nothing_listed ids name member BuiltIn e no_class no_array = absurd (no_class refl)
nothing_listed ids name member Outside e no_class no_array = place_listed ids name member Outside [] None e refl refl
nothing_listed ids name member OutsideError e no_class no_array = place_listed ids name member OutsideError [] None e refl refl
nothing_listed ids name member Array e no_class no_array = absurd (no_array refl)

pub inherits_not : (kind : ClassKind) → (kind ≡ BuiltIn → ⊥) → (kind ≡ Array → ⊥) → inherits kind ≡ false
unfolding inherits
inherits_not File no_class no_array = refl
inherits_not BuiltIn no_class no_array = absurd (no_class refl)
inherits_not Outside no_class no_array = refl
inherits_not OutsideError no_class no_array = refl
inherits_not Array no_class no_array = absurd (no_array refl)

pub inherits_built_in : inherits BuiltIn ≡ true
unfolding inherits
inherits_built_in = refl

pub inherits_array : inherits Array ≡ true
unfolding inherits
inherits_array = refl

-- ---- what is listed

found_or_not : (found : Option BuiltInMethod) (all : List BuiltInMethod) (place : Option ℕ) → Stands found all place → is_some found ≡ is_some place
found_or_not found all None e = ap is_some e
found_or_not found all (Some place) (x, e, there) = ap is_some e

pub listed_alike : (ids : Ids) (class member : List ℕ) → is_some (method_listed ids class member) ≡ is_some (listed_place ids class member)
unfolding method_listed listed_place
listed_alike ids class member =
    found_or_not (method_listed ids class member) (built_in_methods_of ids class) (listed_place ids class member) (found_at (λ listed. bytes_eq listed member) built_in_member (built_in_methods_of ids class))

pub listed_stands : (ids : Ids) (class member : List ℕ) (place : ℕ) → listed_place ids class member ≡ Some place → (x : BuiltInMethod) × (method_listed ids class member ≡ Some x) × (slice_get (built_in_methods_of ids class) place ≡ Some x)
unfolding method_listed listed_place
listed_stands ids class member place e = subst (Stands (method_listed ids class member) (built_in_methods_of ids class)) e (found_at (λ listed. bytes_eq listed member) built_in_member (built_in_methods_of ids class))

pub is_listed : (ids : Ids) (class member : List ℕ) (place : ℕ) → Some place ≡ listed_place ids class member → Listed ids member class
is_listed ids class member place e = subst (λ found. is_some found ≡ true) e refl

pub not_listed : (ids : Ids) (class member : List ℕ) → None ≡ listed_place ids class member → ¬ Listed ids member class
not_listed ids class member e held = let no : false ≡ true = subst (λ found. is_some found ≡ true) (sym e) held in cc

-- ---- parts of a list

pub record At {A : Type 0} (xs : List A) (k : ℕ) (x : A) : Type 0 where
  pub tail : List A
  pub is : xs ≡ take k xs ++ x ∷ tail
  pub behind : drop k xs ≡ x ∷ tail

pub at_place : {A : Type 0} (xs : List A) (k : ℕ) (x : A) → slice_get xs k ≡ Some x → At xs k x
at_place [] k x there = absurd cc
at_place (y ∷ xs) zero x there = let e : y ≡ x = some_is y x there in record { tail = xs; is = ap (λ h. h ∷ xs) e; behind = ap (λ h. h ∷ xs) e }
at_place (y ∷ xs) (suc k) x there = let p = at_place xs k x there in record { tail = p.tail; is = ap (λ l. y ∷ l) p.is; behind = p.behind }

pub numbers_dropped : (names order : List (List ℕ)) (numbers : List ℕ) (k : ℕ) → AreNumbersOf names order numbers → AreNumbersOf names (drop k order) (drop k numbers)
numbers_dropped names order numbers zero are = are
numbers_dropped names [] [] (suc k) are = refl
numbers_dropped names [] (n ∷ ns) (suc k) are = absurd cc
numbers_dropped names (x ∷ xs) [] (suc k) are = absurd cc
numbers_dropped names (x ∷ xs) (n ∷ ns) (suc k) are = let rest : map (slice_get names) ns ≡ map Some xs = cc in numbers_dropped names xs ns k rest

pub numbers_taken : (names order : List (List ℕ)) (numbers : List ℕ) (k : ℕ) → AreNumbersOf names order numbers → AreNumbersOf names (take k order) (take k numbers)
numbers_taken names [] [] zero are = refl
numbers_taken names [] [] (suc k) are = refl
numbers_taken names [] (n ∷ ns) zero are = refl
numbers_taken names [] (n ∷ ns) (suc k) are = absurd cc
numbers_taken names (x ∷ xs) [] zero are = refl
numbers_taken names (x ∷ xs) [] (suc k) are = absurd cc
numbers_taken names (x ∷ xs) (n ∷ ns) zero are = refl
numbers_taken names (x ∷ xs) (n ∷ ns) (suc k) are =
    let rest : map (slice_get names) ns ≡ map Some xs = cc in
    let head : slice_get names n ≡ Some x = cc in
    ap (λ h. h ∷ map (slice_get names) (take k ns)) head ∙ ap (λ t. Some x ∷ t) (numbers_taken names xs ns k rest)

pub numbers_within : (names order : List (List ℕ)) (numbers : List ℕ) → AreNumbersOf names order numbers → (n : ℕ) → Contains numbers n → n < length names
numbers_within names order [] are n (k, below, is) = absurd (omega arith)
numbers_within names [] (m ∷ ms) are n held = absurd cc
numbers_within names (x ∷ xs) (m ∷ ms) are n (zero, below, is) = let head : slice_get names m ≡ Some x = cc in let same : m ≡ n = is in subst (λ j. j < length names) same (slice_get_within names m x head)
numbers_within names (x ∷ xs) (m ∷ ms) are n (suc k, below, is) = let rest : map (slice_get names) ms ≡ map Some xs = cc in numbers_within names xs ms rest n (k, omega (arith, below), is)

pub looked_held : (constructor : Bool) (xs : List ℕ) (x : ℕ) → Contains (cond constructor (take 1 xs) xs) x → Contains xs x
looked_held false xs x held = held
looked_held true [] x (k, below, is) = absurd (omega arith)
looked_held true (y ∷ []) x held = held
looked_held true (y ∷ z ∷ ys) x (zero, below, is) = (0, omega arith, is)
looked_held true (y ∷ z ∷ ys) x (suc k, below, is) = absurd (omega arith)

pub matched : {A : Type 0} {none other_none : Type 0} {some other_some : A → Type 0} (found : Option A) → (none → other_none) → ((x : A) → some x → other_some x) → MatchOption found none some → MatchOption found other_none other_some
matched None on each held = on held
matched (Some x) on each held = each x held

-- ---- what is inherited

module _ {A : Type 0} (is_so is_such : A → Type 0) where
  pub none_alike : (xs : List A) → ((x : A) → Among xs x → is_such x → is_so x) → NoneOf is_so xs → NoneOf is_such xs
  none_alike [] back none = tt
  none_alike (x ∷ xs) back none = ((λ such. none.0 (back x first such)), none_alike xs (λ y held. back y (later held)) none.1)

  pub first_alike : (xs : List A) (x : A) → ((y : A) → is_so y → is_such y) → ((y : A) → is_such y → is_so y) → First is_so xs x → First is_such xs x
  first_alike _ x on back (First.here so) = First.here (on x so)
  first_alike _ x on back (First.later {x = head} {xs = tail} not rest) = First.later (λ such. not (back head such)) (first_alike tail x on back rest)

module _ (linked : Linked) (beyond member : List ℕ) (above : List (List ℕ)) where
  abbrev ids : Ids
  ids = linked.ids.now

  lists : inherits (kind_of_class ids beyond) ≡ true → (class : List ℕ) → (is_constructor member ≡ true → class ≡ beyond) → Listed ids member class → Lists ids beyond member class
  lists inherited class own held = record { inherited = inherited; listed = listed_alike ids class member ∙ held; own = own }

  unlists : (class : List ℕ) → Lists ids beyond member class → Listed ids member class
  unlists class held = sym (listed_alike ids class member) ∙ held.listed

  pub none_inherited : inherits (kind_of_class ids beyond) ≡ false → NoneOf (Lists ids beyond member) (beyond ∷ above)
  none_inherited not = none_alike (λ class. ⊥) (Lists ids beyond member) (beyond ∷ above) (λ class held such. let e : true ≡ false = sym such.inherited ∙ not in absurd cc) (nothing (beyond ∷ above))
    where
      nothing : (xs : List (List ℕ)) → NoneOf (λ (class : List ℕ). ⊥) xs
      nothing [] = tt
      nothing (x ∷ xs) = ((λ so. so), nothing xs)

  pub none_listing : (constructor : Bool) → constructor ≡ is_constructor member → Ancestry ids beyond (beyond ∷ above) → NoneOf (Listed ids member) (cond constructor (take 1 (beyond ∷ above)) (beyond ∷ above)) → NoneOf (Lists ids beyond member) (beyond ∷ above)
  none_listing false is ancestry none = none_alike (Listed ids member) (Lists ids beyond member) (beyond ∷ above) (λ class held such. unlists class such) none
  none_listing true is ancestry none =
      ((λ such. none.0 (unlists beyond such)), none_alike (λ class. class ≡ beyond) (Lists ids beyond member) above (λ class held such. such.own (sym is)) (apart above (λ held. not_above ids beyond above ancestry held)))
    where
      apart : (xs : List (List ℕ)) → (Among xs beyond → ⊥) → NoneOf (λ class. class ≡ beyond) xs
      apart [] away = tt
      apart (x ∷ xs) away = ((λ e. away (subst (λ y. Among (x ∷ xs) y) e first)), apart xs (λ held. away (later held)))

  -- what is looked at
  pub numbers_looked : (constructor : Bool) (classes looked : List ℕ) → looked ≡ cond constructor (take 1 classes) classes → AreNumbersOf linked.names.now (beyond ∷ above) classes →
      AreNumbersOf linked.names.now (cond constructor (take 1 (beyond ∷ above)) (beyond ∷ above)) looked
  numbers_looked false classes looked is are = subst (AreNumbersOf linked.names.now (beyond ∷ above)) (sym is) are
  numbers_looked true classes looked is are = subst (AreNumbersOf linked.names.now (take 1 (beyond ∷ above))) (sym is) (numbers_taken linked.names.now (beyond ∷ above) classes 1 are)

  pub first_inherited : (constructor : Bool) (found : Found) → constructor ≡ is_constructor member → inherits (kind_of_class ids beyond) ≡ true → IsFoundListed linked member (cond constructor (take 1 (beyond ∷ above)) (beyond ∷ above)) found →
      IsListed linked beyond member (beyond ∷ above) found
  first_inherited false found is inherited f = record {
    owner = f.owner;
    there = f.there;
    first = first_alike (Listed ids member) (Lists ids beyond member) (beyond ∷ above) f.owner (λ class held. lists inherited class (λ e. let no : true ≡ false = sym e ∙ sym is in absurd cc) held) unlists f.first;
    placed = f.placed;
  }
  first_inherited true found is inherited f = from f.owner f.there f.first f.placed
    where
      from : (owner : List ℕ) → slice_get linked.names.now found.class ≡ Some owner → First (Listed ids member) (beyond ∷ []) owner → listed_place ids owner member ≡ Some found.place → IsListed linked beyond member (beyond ∷ above) found
      from _ there (First.here so) placed = record { owner = beyond; there = there; first = First.here (lists inherited beyond (λ e. refl) so); placed = placed }
      from owner there (First.later not rest) placed = absurd (nothing owner rest)
        where
          nothing : (x : List ℕ) → First (Listed ids member) [] x → ⊥
          nothing x is = elim is [ ]
