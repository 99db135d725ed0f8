-- First definitions, by their numbers.
use Rattle.std.proofs.Common.{◌≡◌, ℕ, ◌<◌, Bool, true, false, nat_lt, List, [], ◌∷◌, length, get_or, Option, Some, None, slice_get, refl, sym, subst, ◌∙◌, arith}
use Rattle.std.specs.Prelude.{find, position, option_and_then, MatchOption}
use Rattle.std.specs.List.{position_or_len}
use Rattle.std.specs.Str.{bytes_eq}
use Rattle.std.proofs.lemmas.Bool.Decides.{nat_tests}
use Rattle.std.proofs.lemmas.List.Folds.{find_at}
use Rattle.std.proofs.lemmas.List.Sums.{position_or_len_is}
use Rattle.std.proofs.lemmas.Option.{slice_get_past, slice_get_within, slice_get-get_or, get_or_from_slice_get}
use Rattle.std.proofs.lemmas.Slice.Eq.{bytes_eq-Decides}
use Rattle.cc_meaning.specs.declared.file.ClassRow.{ClassRow}
use Rattle.cc_meaning.specs.declared.file.Ids.{Ids}
use Rattle.cc_meaning_program.specs.Definitions.{Defines}
use Rattle.cc_meaning_program.specs.Named.{type_name}
use Rattle.cc_meaning_program.specs.Ancestry.{definition_of}
use Rattle.cc_meaning_program.specs.Outlines.{definition_number}
use Rattle.cc_meaning_program.specs.Rows.{ClassFits, FitTables}
use Rattle.cc_hierarchy.specs.Indexes.{IsFirstOf}

-- ---- lists

find_by_place : {A : Type 0} (p : A → Bool) (xs : List A) → find p xs ≡ option_and_then (slice_get xs) (position p xs)
find_by_place p xs = from (nat_lt (position_or_len p xs) (length xs)) refl
  where
    from : (b : Bool) → nat_lt (position_or_len p xs) (length xs) ≡ b → find p xs ≡ option_and_then (slice_get xs) (position p xs)
    from true e = rw e (find_at p xs)
    from false e = rw e (find_at p xs ∙ slice_get_past xs (position_or_len p xs) (grind (arith, nat_tests)))

place_is : {A : Type 0} (p : A → Bool) (xs : List A) (n : ℕ) (x : A) → slice_get xs n ≡ Some x → p x ≡ true → ((k : ℕ) (y : A) → k < n → slice_get xs k ≡ Some y → p y ≡ false) → position p xs ≡ Some n
place_is p xs n x there passes before =
    let within : n < length xs = slice_get_within xs n x there in
    let at : position_or_len p xs ≡ n = position_or_len_is p xs n x (omega arith) (λ k below. before k (get_or xs k x) below (slice_get-get_or xs k x (omega arith))) (λ w. subst (λ y. p y ≡ true) (sym (get_or_from_slice_get xs n x x there)) passes) in
    let below : nat_lt n (length xs) ≡ true = grind (arith, nat_tests) in
    rw at (rw below refl)

no_place : {A : Type 0} (p : A → Bool) (xs : List A) → ((k : ℕ) (y : A) → slice_get xs k ≡ Some y → p y ≡ false) → position p xs ≡ None
no_place p [] none = refl
no_place p (x ∷ xs) none =
    let at : position_or_len p (x ∷ xs) ≡ length (x ∷ xs) = position_or_len_is p (x ∷ xs) (length (x ∷ xs)) x (omega arith) (λ k below. none k (get_or (x ∷ xs) k x) (slice_get-get_or (x ∷ xs) k x below)) (λ w. absurd (omega arith)) in
    let past : nat_lt (length (x ∷ xs)) (length (x ∷ xs)) ≡ false = grind (arith, nat_tests) in
    rw at (rw past refl)

-- ---- definitions

not_named : (ids : Ids) (name : List ℕ) (number : ℕ) (stated : ClassRow) → ¬ Defines ids number name → slice_get ids.classes number ≡ Some stated → bytes_eq (type_name ids stated.class) name ≡ false
not_named ids name number stated not there = from (bytes_eq (type_name ids stated.class) name) refl
  where
    from : (b : Bool) → bytes_eq (type_name ids stated.class) name ≡ b → bytes_eq (type_name ids stated.class) name ≡ false
    from true e = absurd (not (record { stated = stated; there = there; named = (bytes_eq-Decides (type_name ids stated.class) name).0 e }))
    from false e = e

pub found_is_number : (ids : Ids) (name : List ℕ) (found : Option ℕ) → MatchOption found ((number : ℕ) → ¬ Defines ids number name) (IsFirstOf ids name) → found ≡ definition_number ids name
unfolding definition_number
found_is_number ids name None not = sym (no_place (λ (stated : ClassRow). bytes_eq (type_name ids stated.class) name) ids.classes (λ k y there. not_named ids name k y (not k) there))
found_is_number ids name (Some number) first =
    sym (place_is (λ (stated : ClassRow). bytes_eq (type_name ids stated.class) name) ids.classes number first.defines.stated first.defines.there
    ((bytes_eq-Decides (type_name ids first.defines.stated.class) name).1 first.defines.named) (λ k y below there. not_named ids name k y (first.before k below) there))

pub definition_placed : (ids : Ids) (name : List ℕ) → definition_of ids name ≡ option_and_then (slice_get ids.classes) (definition_number ids name)
unfolding definition_of definition_number
definition_placed ids name = find_by_place (λ (stated : ClassRow). bytes_eq (type_name ids stated.class) name) ids.classes

pub definition_fits : (ids : Ids) (name : List ℕ) (class : ClassRow) → FitTables ids → definition_of ids name ≡ Some class → ClassFits ids class
definition_fits ids name class fits is = from (definition_number ids name) (sym (definition_placed ids name) ∙ is)
  where
    from : (number : Option ℕ) → option_and_then (slice_get ids.classes) number ≡ Some class → ClassFits ids class
    from None e = absurd cc
    from (Some number) e = fits.classes number class e
