-- Types of descriptors, one more at a time.
use Rattle.std.proofs.Common.{◌≡◌, ◌≢◌, true, ◌⊎◌, inl, inr, ℕ, zero, suc, ◌+◌, ◌<◌, ◌≤◌, List, [], ◌∷◌, ◌++◌, length, get_or, Option, Some, None, slice_get, unwrap_or, refl, sym, ap, subst, ◌∙◌, length-append, arith}
use Rattle.std.specs.Prelude.{Contains, option_and_then}
use Rattle.std.proofs.lemmas.Option.{slice_get_cases, slice_get_past, get_or_from_slice_get}
use Rattle.std.proofs.lemmas.Bool.Decides.{nat_tests}
use Rattle.cc_meaning.specs.declared.file.Ids.{Ids}
use Rattle.cc_meaning.specs.declared.program.Base.{Base}
use Rattle.cc_meaning.specs.declared.program.Base.TheVariants as base
use Rattle.cc_meaning.specs.declared.program.DexType.{DexType}
use Rattle.cc_meaning_dex.specs.Descriptors.{dims_of, names_class}
use Rattle.cc_meaning_program.specs.Named.{text_of, type_name}
use Rattle.cc_meaning_program.specs.ClassNames.{base_name}
use Rattle.cc_meaning_program.specs.TypeNames.{base_spelled, IsBase, IsTypeOf, SpellsByParts}
use Rattle.cc_names.specs.Types.{AreTypesOf}

last_or_before : {A : Type 0} (xs : List A) (x y : A) (k : ℕ) → slice_get (xs ++ x ∷ []) k ≡ Some y → (slice_get xs k ≡ Some y) ⊎ ((k ≡ length xs) × (x ≡ y))
last_or_before [] x y zero e = inr (refl, cc)
last_or_before [] x y (suc k) e = absurd (cc)
last_or_before (z ∷ zs) x y zero e = inl e
last_or_before (z ∷ zs) x y (suc k) e = elim (last_or_before zs x y k e) [ inl before ↦ inl before | inr last ↦ inr (omega (arith, last.0), last.1) ]

pub none_yet : (names : List (List ℕ)) (descriptor : ℕ → List ℕ) → AreTypesOf names 0 descriptor []
none_yet names descriptor = record { all = refl; each = λ row type there. absurd (cc) }

pub one_more : (names : List (List ℕ)) (descriptor : ℕ → List ℕ) (types : List (Option DexType)) (count : ℕ) (type : Option DexType) → AreTypesOf names count descriptor types →
    IsTypeOf names (descriptor count) type → AreTypesOf names (count + 1) descriptor (types ++ type ∷ [])
one_more names descriptor types count type are is = record {
  all = length-append types (type ∷ []) ∙ ap (λ (n : ℕ). n + 1) are.all;
  each = λ row other there. each row other (last_or_before types type other row there);
}
  where
    each : (row : ℕ) (other : Option DexType) → (slice_get types row ≡ Some other) ⊎ ((row ≡ length types) × (type ≡ other)) → IsTypeOf names (descriptor row) other
    each row other (inl before) = are.each row other before
    each row other (inr last) =
        let place : count ≡ row = sym are.all ∙ sym last.0 in
        subst (IsTypeOf names (descriptor row)) last.1 (subst (λ (n : ℕ). IsTypeOf names (descriptor n) type) place is)

-- ---- bases

letter_is_no_class : (letter : ℕ) (name : List ℕ) → letter ≢ 76 → letter ∷ [] ≡ name → names_class name ≡ true → ⊥
letter_is_no_class letter name other same class =
    let first : get_or name 0 0 ≡ letter = ap (λ (n : List ℕ). get_or n 0 0) (sym same) in
    other (sym first ∙ grind (arith, nat_tests))

class_there : (names : List (List ℕ)) (class : ℕ) → names_class (get_or names class []) ≡ true → Contains names (get_or names class [])
class_there [] class is = absurd cc
class_there (name ∷ names) zero is = (0, omega arith, refl)
class_there (name ∷ names) (suc n) is = let (k, within, same) = class_there names n is in (suc k, omega arith, same)

-- no base spells a class that isn't among the names
pub class_not_found : (names : List (List ℕ)) (name : List ℕ) → names_class name ≡ true → (Contains names name → ⊥) → (b : Base) → IsBase names b → base_spelled names b ≡ name → ⊥
unfolding base_spelled
class_not_found names name class not_there base.Boolean is same = letter_is_no_class 90 name (omega arith) same class
class_not_found names name class not_there base.Byte is same = letter_is_no_class 66 name (omega arith) same class
class_not_found names name class not_there base.Short is same = letter_is_no_class 83 name (omega arith) same class
class_not_found names name class not_there base.Char is same = letter_is_no_class 67 name (omega arith) same class
class_not_found names name class not_there base.Int is same = letter_is_no_class 73 name (omega arith) same class
class_not_found names name class not_there base.Long is same = letter_is_no_class 74 name (omega arith) same class
class_not_found names name class not_there (base.Class number) is same = not_there (subst (Contains names) same (class_there names number is))

-- a class that is among the names is spelled by its number
pub class_found : (names : List (List ℕ)) (name : List ℕ) (number : ℕ) → names_class name ≡ true → slice_get names number ≡ Some name →
    IsBase names (base.Class number) × (base_spelled names (base.Class number) ≡ name)
unfolding base_spelled
class_found names name number class there =
    let same : get_or names number [] ≡ name = get_or_from_slice_get names number name [] there in
    (subst (λ n. names_class n ≡ true) (sym same) class, same)

-- ---- types

-- no type spells what is empty
no_base : (names : List (List ℕ)) (b : Base) → IsBase names b → base_spelled names b ≡ [] → ⊥
unfolding base_spelled
no_base names base.Boolean is same = cc
no_base names base.Byte is same = cc
no_base names base.Short is same = cc
no_base names base.Char is same = cc
no_base names base.Int is same = cc
no_base names base.Long is same = cc
no_base names (base.Class number) is same = let e : names_class [] ≡ true = subst (λ n. names_class n ≡ true) same is in cc

pub none_is_empty : SpellsByParts → (names : List (List ℕ)) → IsTypeOf names [] None
unfolding base_name dims_of
none_is_empty parts names type spells =
    let has = (parts names type []).0 spells in
    no_base names type.base has.based has.base

-- the type of a row's text, where that is there
pub type_of_row : SpellsByParts → (names : List (List ℕ)) (ids : Ids) (by_text : List (Option DexType)) (row text : ℕ) → AreTypesOf names (length ids.texts) (text_of ids) by_text →
    slice_get ids.types row ≡ Some text → IsTypeOf names (type_name ids row) (unwrap_or (slice_get by_text text) None)
unfolding type_name text_of
type_of_row parts names ids by_text row text are there = from ((slice_get_cases by_text text).1)
  where
    named : type_name ids row ≡ text_of ids text
    named = ap (λ (o : Option ℕ). unwrap_or (option_and_then (slice_get ids.texts) o) []) there

    from : ((type : Option DexType) × (text < length by_text) × (slice_get by_text text ≡ Some type) × (get_or by_text text type ≡ type)) ⊎ ((length by_text ≤ text) × (slice_get by_text text ≡ None)) →
        IsTypeOf names (type_name ids row) (unwrap_or (slice_get by_text text) None)
    from (inl (type, within, found, at)) = rw (named, found) (are.each text type found)
    from (inr (past, none)) =
        let no_text : slice_get ids.texts text ≡ None = slice_get_past ids.texts text (omega (arith, past, are.all)) in
        let empty : text_of ids text ≡ [] = ap (λ (o : Option (List ℕ)). unwrap_or o []) no_text in
        rw (named, none, empty) (none_is_empty parts names)
