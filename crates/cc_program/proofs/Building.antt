-- A program is built.
use Rattle.std.proofs.Common.{◌≡◌, ◌⊎◌, inl, inr, ℕ, suc, ◌<◌, ◌≤◌, ◌^◌, Bool, true, false, List, [], ◌∷◌, length, map, Option, Some, None, slice_index_or, refl, sym, ap, ◌∙◌, subst, arith}
use Rattle.std.specs.Prelude.{slice_get, Contains, ◌||◌, MatchOption}
use Rattle.std.proofs.lemmas.Option.{slice_get_within, slice_get-get_or, get_or_from_slice_get}
use Rattle.cc_meaning.specs.declared.file.ClassRow.{ClassRow}
use Rattle.cc_meaning.specs.declared.file.Ids.{Ids}
use Rattle.cc_meaning_dex.specs.Descriptors.{names_class, names_reference, begins_with}
use Rattle.cc_meaning_program.specs.ClassNames.{IsClassName, AreClassNames}
use Rattle.cc_meaning_program.specs.Named.{type_name}
use Rattle.cc_meaning_program.specs.Rows.{FitTables}

or_first : (a b : Bool) → a ≡ true → (a || b) ≡ true
or_first true b e = refl
or_first false b e = absurd cc

-- the class of a definition is a class of the program
pub defined_is_class : (ids : Ids) → FitTables ids → (names : List (List ℕ)) → AreClassNames ids names → (number : ℕ) (stated : ClassRow) → slice_get ids.classes number ≡ Some stated → Contains names (type_name ids stated.class)
defined_is_class ids fit names are number stated there =
    let row = (fit.classes number stated there).class in
    (are.are (type_name ids stated.class)).1 (IsClassName.listed row.there (or_first (names_class (type_name ids stated.class)) (begins_with 91 (type_name ids stated.class)) row.sorted))

pub row_at : {A : Type 0} (xs : List A) (k : ℕ) (x : A) → k < length xs → x ≡ slice_index_or xs k x → slice_get xs k ≡ Some x
row_at xs k x within is = slice_get-get_or xs k x within ∙ ap Some (sym is)

length_map : {A B : Type 0} (f : A → B) (xs : List A) → length (map f xs) ≡ length xs
length_map f [] = refl
length_map f (x ∷ xs) = ap suc (length_map f xs)

pub as_many : {A B C : Type 0} (f : A → C) (g : B → C) (xs : List A) (ys : List B) → map f xs ≡ map g ys → length xs ≡ length ys
as_many f g xs ys same = sym (length_map f xs) ∙ (ap length same ∙ length_map g ys)
