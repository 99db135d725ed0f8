-- The numbers of names.
use Rattle.std.proofs.Common.{◌≡◌, ◌⊎◌, inl, inr, ℕ, zero, suc, ◌+◌, ◌<◌, ◌≤◌, true, List, [], ◌∷◌, ◌++◌, length, get_or, Option, Some, None, slice_get, unwrap_or, refl, sym, ap, subst, ◌∙◌, length-append, arith}
use Rattle.std.specs.Prelude.{Contains, option_and_then}
use Rattle.std.proofs.lemmas.Option.{slice_get_cases, slice_get_within}
use Rattle.cc_meaning.specs.declared.file.Ids.{Ids}
use Rattle.cc_meaning_dex.specs.Descriptors.{names_reference}
use Rattle.cc_meaning_program.specs.ClassNames.{AreClassNames, listed}
use Rattle.cc_meaning_program.specs.Named.{type_name}
use Rattle.cc_meaning_program.specs.Outlines.{IsOutline}
use Rattle.cc_meaning_program.specs.Rows.{IsTypeRow}
use Rattle.cc_meaning_program.specs.declared.outline.Outline.{Outline}
use Rattle.cc_hierarchy.specs.Numbers.{IsPlaceOf, AreFirstNumbers, AreTextNumbers, AreFirstOutlines}

last_or_before : {A : Type 0} (xs : List A) (x y : A) (k : ℕ) → slice_get (xs ++ x ∷ []) k ≡ Some y → (slice_get xs k ≡ Some y) ⊎ ((k ≡ length xs) × (x ≡ y))
last_or_before [] x y zero e = inr (refl, cc)
last_or_before [] x y (suc k) e = absurd (cc)
last_or_before (z ∷ zs) x y zero e = inl e
last_or_before (z ∷ zs) x y (suc k) e = elim (last_or_before zs x y k e) [ inl before ↦ inl before | inr last ↦ inr (omega (arith, last.0), last.1) ]

same_some : {A : Type 0} (x y : A) → Some x ≡ Some y → x ≡ y
same_some x y e = cc

-- ---- texts

pub no_numbers : (names texts : List (List ℕ)) → AreFirstNumbers names texts 0 []
no_numbers names texts = record { all = refl; each = λ row text number there found. absurd (cc) }

pub one_more_number : (names texts : List (List ℕ)) (count : ℕ) (numbers : List (Option ℕ)) (text : List ℕ) (number : Option ℕ) → AreFirstNumbers names texts count numbers → slice_get texts count ≡ Some text →
    IsPlaceOf names text number → AreFirstNumbers names texts (count + 1) (numbers ++ number ∷ [])
one_more_number names texts count numbers text number are there is = record {
  all = length-append numbers (number ∷ []) ∙ ap (λ (n : ℕ). n + 1) are.all;
  each = λ row other found given at. each row other found given (last_or_before numbers number found row at);
}
  where
    each : (row : ℕ) (other : List ℕ) (found : Option ℕ) → slice_get texts row ≡ Some other → (slice_get numbers row ≡ Some found) ⊎ ((row ≡ length numbers) × (number ≡ found)) → IsPlaceOf names other found
    each row other found given (inl before) = are.each row other found given before
    each row other found given (inr last) =
        let place : count ≡ row = sym are.all ∙ sym last.0 in
        let same : text ≡ other = same_some text other (sym there ∙ ap (slice_get texts) place ∙ given) in
        subst (IsPlaceOf names other) last.1 (subst (λ t. IsPlaceOf names t number) same is)

-- ---- types

is_there : (names : List (List ℕ)) (name : List ℕ) (found : Option ℕ) → Contains names name → IsPlaceOf names name found → (number : ℕ) × (found ≡ Some number) × (slice_get names number ≡ Some name)
is_there names name None there is = absurd (is there)
is_there names name (Some number) there is = (number, refl, is)

-- a class or an array that a row of types names has a number, which is that of the row's text
pub type_numbered : (ids : Ids) (names : List (List ℕ)) (numbers : List (Option ℕ)) (row text : ℕ) → AreClassNames ids names → AreTextNumbers names ids.texts numbers → IsTypeRow names_reference ids row →
    slice_get ids.types row ≡ Some text → (number : ℕ) × (unwrap_or (slice_get numbers text) None ≡ Some number) × (slice_get names number ≡ Some (type_name ids row))
unfolding type_name
type_numbered ids names numbers row text class_names are is at = from ((slice_get_cases ids.texts text).1)
  where
    named : type_name ids row ≡ unwrap_or (slice_get ids.texts text) []
    named = ap (λ (o : Option ℕ). unwrap_or (option_and_then (slice_get ids.texts) o) []) at

    there : Contains names (type_name ids row)
    there = (class_names.are (type_name ids row)).1 (listed is.there is.sorted)

    within : (t : List ℕ) → slice_get ids.texts text ≡ Some t → ((found : Option ℕ) × (text < length numbers) × (slice_get numbers text ≡ Some found) × (get_or numbers text found ≡ found)) ⊎ ((length numbers ≤ text) × (slice_get numbers text ≡ None)) →
        (number : ℕ) × (unwrap_or (slice_get numbers text) None ≡ Some number) × (slice_get names number ≡ Some (type_name ids row))
    within t given (inl (found, inside, stands, same)) =
        let name : type_name ids row ≡ t = named ∙ ap (λ (o : Option (List ℕ)). unwrap_or o []) given in
        let (number, is_some, placed) = is_there names (type_name ids row) found there (subst (λ n. IsPlaceOf names n found) (sym name) (are.each text t found given stands)) in
        (number, ap (λ (o : Option (Option ℕ)). unwrap_or o None) stands ∙ is_some, placed)
    within t given (inr (past, none)) = absurd (omega (arith, past, are.all, slice_get_within ids.texts text t given))

    from : ((t : List ℕ) × (text < length ids.texts) × (slice_get ids.texts text ≡ Some t) × (get_or ids.texts text t ≡ t)) ⊎ ((length ids.texts ≤ text) × (slice_get ids.texts text ≡ None)) →
        (number : ℕ) × (unwrap_or (slice_get numbers text) None ≡ Some number) × (slice_get names number ≡ Some (type_name ids row))
    from (inl (t, inside, given, same)) = within t given ((slice_get_cases numbers text).1)
    from (inr (past, none)) =
        let empty : type_name ids row ≡ [] = named ∙ ap (λ (o : Option (List ℕ)). unwrap_or o []) none in
        absurd (let e : names_reference [] ≡ true = subst (λ n. names_reference n ≡ true) empty is.sorted in cc)

-- ---- outlines

pub no_outlines : (ids : Ids) (names : List (List ℕ)) → AreFirstOutlines ids names 0 []
no_outlines ids names = record { all = refl; each = λ number name outline there found. absurd (cc) }

pub one_more_outline : (ids : Ids) (names : List (List ℕ)) (count : ℕ) (outlines : List Outline) (name : List ℕ) (outline : Outline) → AreFirstOutlines ids names count outlines → slice_get names count ≡ Some name →
    IsOutline ids names name outline → AreFirstOutlines ids names (count + 1) (outlines ++ outline ∷ [])
one_more_outline ids names count outlines name outline are there is = record {
  all = length-append outlines (outline ∷ []) ∙ ap (λ (n : ℕ). n + 1) are.all;
  each = λ number other found given at. each number other found given (last_or_before outlines outline found number at);
}
  where
    each : (number : ℕ) (other : List ℕ) (found : Outline) → slice_get names number ≡ Some other → (slice_get outlines number ≡ Some found) ⊎ ((number ≡ length outlines) × (outline ≡ found)) → IsOutline ids names other found
    each number other found given (inl before) = are.each number other found given before
    each number other found given (inr last) =
        let place : count ≡ number = sym are.all ∙ sym last.0 in
        let same : name ≡ other = same_some name other (sym there ∙ ap (slice_get names) place ∙ given) in
        subst (IsOutline ids names other) last.1 (subst (λ n. IsOutline ids names n outline) same is)
