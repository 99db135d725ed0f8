-- The main class of a file, and the number of its main method.
use Rattle.std.proofs.Common.{◌≡◌, ◌⊎◌, inl, inr, ℕ, zero, suc, ◌+◌, ◌<◌, ◌≤◌, Bool, true, false, List, [], ◌∷◌, ◌++◌, length, cond, position, slice_index_or, Option, Some, None, refl, sym, ap, ◌∙◌, subst, arith}
use Rattle.std.specs.Prelude.{slice_get, find, option_and_then, is_some, Contains, codes}
use Rattle.std.specs.List.{position_or_len}
use Rattle.std.specs.Str.{bytes_eq}
use Rattle.std.proofs.lemmas.Bool.{false_from_ne_true}
use Rattle.std.proofs.lemmas.List.Quantifiers.{position-Some}
use Rattle.std.proofs.lemmas.List.Sums.{position_or_len_is}
use Rattle.std.proofs.lemmas.Option.{slice_get_within, slice_get-get_or, get_or_from_slice_get}
use Rattle.std.proofs.lemmas.Slice.Eq.{bytes_eq-Decides}
use Rattle.cc_meaning.specs.declared.file.ClassRow.{ClassRow}
use Rattle.cc_meaning.specs.declared.file.Ids.{Ids}
use Rattle.cc_meaning.specs.declared.file.RawClass.{RawClass}
use Rattle.cc_meaning.specs.declared.file.RawMethod.{RawMethod}
use Rattle.cc_meaning_dex.specs.CodeItems.{has_flag}
use Rattle.cc_meaning_program.specs.ClassFaults.{AreSound, IsDuplicate}
use Rattle.cc_meaning_program.specs.Definitions.{Defines}
use Rattle.cc_meaning_program.specs.Named.{method_member, type_name}
use Rattle.cc_meaning_program.specs.OwnMembers.{members_of, method_among, method_defined}
use Rattle.cc_meaning_program.specs.Programs.{main_member, HasMain, IsMainClass}
use Rattle.cc_program.specs.Mains.{IsRunnable, IsMainAt, IsMainOf, IsWanted, NoMainBefore}
use Rattle.cc_program.proofs.Assembly.{some_same}

place_found : {X : Type 0} (p : X → Bool) (xs : List X) (i : ℕ) → position_or_len p xs ≡ i → i < length xs → position p xs ≡ Some i
place_found p xs i e h = grind (arith, e, h)

found_at : {A : Type 0} (test : A → Bool) (xs : List A) (x : A) → find test xs ≡ Some x → (test x ≡ true) × ((k : ℕ) × (slice_get xs k ≡ Some x))
found_at test [] x e = absurd cc
found_at test (y ∷ ys) x e = first (test y) refl e (found_at test ys x)
  where
    first : (r : Bool) → test y ≡ r → cond r (Some y) (find test ys) ≡ Some x → (find test ys ≡ Some x → (test x ≡ true) × ((k : ℕ) × (slice_get ys k ≡ Some x))) → (test x ≡ true) × ((k : ℕ) × (slice_get (y ∷ ys) k ≡ Some x))
    first true is e rest = let same : y ≡ x = some_same y x e in (subst (λ z. test z ≡ true) same is, (0, ap Some same))
    first false is e rest = let found = rest e in (found.0, (suc found.1.0, found.1.1))

module _ (ids : Ids) (classes : List RawClass) (sound : AreSound ids classes) where
  -- one definition is of a class
  pub defined_at : (number : ℕ) (stated : ClassRow) → slice_get ids.classes number ≡ Some stated → position (λ (row : ClassRow). bytes_eq (type_name ids row.class) (type_name ids stated.class)) ids.classes ≡ Some number
  defined_at number stated there =
      let name = type_name ids stated.class in
      let test : ClassRow → Bool = λ row. bytes_eq (type_name ids row.class) (type_name ids stated.class) in
      let within = slice_get_within ids.classes number stated there in
      place_found test ids.classes number
      (position_or_len_is test ids.classes number stated (omega (arith, within))
      (λ j below. false_from_ne_true (test (slice_index_or ids.classes j stated)) (λ e.
      sound.distinct number (IsDuplicate.of_class {name = type_name ids stated.class} {earlier = j}
      (record { stated = stated; there = there; named = refl }) below
      (record { stated = slice_index_or ids.classes j stated; there = slice_get-get_or ids.classes j stated (omega (arith, below, within)); named = (bytes_eq-Decides (type_name ids (slice_index_or ids.classes j stated).class) (type_name ids stated.class)).0 e }))))
      (λ h. (bytes_eq-Decides (type_name ids (slice_index_or ids.classes number stated).class) (type_name ids stated.class)).1 (ap (λ (row : ClassRow). type_name ids row.class) (get_or_from_slice_get ids.classes number stated stated there))))
      within

  pub members_at : (number : ℕ) (stated : ClassRow) (class : RawClass) → slice_get ids.classes number ≡ Some stated → slice_get classes number ≡ Some class → members_of ids classes (type_name ids stated.class) ≡ Some class
  unfolding members_of
  members_at number stated class there found = ap (option_and_then (slice_get classes)) (defined_at number stated there) ∙ found

  pub has_main : (number place : ℕ) (asked : Option (List ℕ)) → (is : IsMainOf ids classes asked number place) → HasMain ids classes (type_name ids is.stated.class)
  unfolding method_defined method_among
  has_main number place asked is = (is.has.raw, ap (method_among ids main_member) (members_at number is.stated is.class is.defined is.there) ∙ is.has.found, is.has.runs.static, is.has.runs.coded)

  -- the definition of a class that has a main method
  main_in : (o : Option RawClass) (raw : RawMethod) → method_among ids main_member o ≡ Some raw → (class : RawClass) × (o ≡ Some class) × (find (λ (method : RawMethod). bytes_eq (method_member ids method.row) main_member) class.methods ≡ Some raw)
  unfolding method_among
  main_in None raw e = absurd cc
  main_in (Some class) raw e = (class, refl, e)

  class_in : (o : Option ℕ) (class : RawClass) → option_and_then (slice_get classes) o ≡ Some class → (number : ℕ) × (o ≡ Some number) × (slice_get classes number ≡ Some class)
  class_in None class e = absurd cc
  class_in (Some number) class e = (number, refl, e)

  row_at : (xs : List ClassRow) (test : ClassRow → Bool) (number : ℕ) → position test xs ≡ Some number → (row : ClassRow) × (slice_get xs number ≡ Some row) × (test row ≡ true)
  row_at [] test number e = absurd cc
  row_at (x ∷ xs) test number e =
      let found = position-Some test (x ∷ xs) number x e in
      (slice_index_or (x ∷ xs) number x, slice_get-get_or (x ∷ xs) number x found.0, found.1)

  pub main_at : (class : List ℕ) (asked : Option (List ℕ)) → HasMain ids classes class → IsWanted asked class → (number : ℕ) × (place : ℕ) × Defines ids number class × IsMainOf ids classes asked number place
  unfolding method_defined members_of
  main_at class asked has wanted =
      let mine = main_in (members_of ids classes class) has.0 has.1 in
      let placed = class_in (position (λ (stated : ClassRow). bytes_eq (type_name ids stated.class) class) ids.classes) mine.0 mine.1 in
      let row = row_at ids.classes (λ (stated : ClassRow). bytes_eq (type_name ids stated.class) class) placed.0 placed.1 in
      let named : type_name ids row.0.class ≡ class = (bytes_eq-Decides (type_name ids row.0.class) class).0 row.2 in
      let method = found_at (λ (method : RawMethod). bytes_eq (method_member ids method.row) main_member) mine.0.methods has.0 mine.2 in (
        placed.0,
        method.1.0,
        record { stated = row.0; there = row.1; named = named },
        record {
          stated = row.0;
          defined = row.1;
          class = mine.0;
          there = placed.2;
          wanted = subst (IsWanted asked) (sym named) wanted;
          has = record { raw = has.0; there = method.1.1; found = mine.2; runs = record { static = has.2; coded = has.3 } };
        },
      )

  pub main_found : (asked : Option (List ℕ)) (number place : ℕ) → (is : IsMainOf ids classes asked number place) → NoMainBefore ids classes asked number → IsMainClass ids classes asked (type_name ids is.stated.class)
  main_found None number place is none =
      IsMainClass.first {number = number} (record { stated = is.stated; there = is.defined; named = refl }) (has_main number place None is)
      (λ earlier other below defines has.
      let main = main_at other None has tt in
      none main.0 main.1 (subst (λ k. k < number) (one_definition earlier main.0 other defines main.2) below) main.3)
    where
      one_definition : (j k : ℕ) (name : List ℕ) → Defines ids j name → Defines ids k name → j ≡ k
      one_definition j k name one two =
          let first = defined_at j one.stated one.there in
          let second = defined_at k two.stated two.there in
          let same : type_name ids one.stated.class ≡ type_name ids two.stated.class = one.named ∙ sym two.named in
          some_same j k (sym first ∙ (ap (λ n. position (λ (row : ClassRow). bytes_eq (type_name ids row.class) n) ids.classes) same ∙ second))
  main_found (Some wanted) number place is none = subst (λ n. IsMainClass ids classes (Some wanted) n) is.wanted (IsMainClass.asked (subst (HasMain ids classes) (sym is.wanted) (has_main number place (Some wanted) is)))

  pub no_main_class : (asked : Option (List ℕ)) → NoMainBefore ids classes asked (length ids.classes) → (class : List ℕ) → IsMainClass ids classes asked class → ⊥
  no_main_class _ none class (IsMainClass.asked has) =
      let main = main_at class (Some class) has refl in
      none main.0 main.1 (slice_get_within ids.classes main.0 main.3.stated main.3.defined) main.3
  no_main_class _ none class (IsMainClass.first defines has before) =
      let main = main_at class None has tt in
      none main.0 main.1 (slice_get_within ids.classes main.0 main.3.stated main.3.defined) main.3
