-- Rows of types and the texts of their descriptors.
use Rattle.std.proofs.Common.{◌≡◌, ◌≢◌, inl, inr, ℕ, zero, suc, ◌<◌, List, [], ◌∷◌, ◌++◌, length, map, get_or, Option, Some, None, slice_get, unwrap_or, refl, sym, ap, subst, ◌∙◌, arith}
use Rattle.std.specs.Prelude.{AllPairs, Contains, MatchOption, option_and_then}
use Rattle.std.proofs.lemmas.List.{length-map, get_or-map}
use Rattle.std.proofs.lemmas.Option.{slice_get_within, slice_get-get_or}
use Rattle.cc_meaning.specs.Order.{IsBefore, IsRising}
use Rattle.cc_meaning.specs.declared.file.Ids.{Ids}
use Rattle.cc_meaning_dex.specs.Descriptors.{IsDescriptor, IsValue, dimensions}
use Rattle.cc_meaning_program.specs.Named.{type_name, text_of}
use Rattle.cc_tables.specs.Rows.{TextsRise, TypesRise, TypesFit, IsOneRow, IsDescribed}
use Rattle.cc_tables.proofs.Searched.{once, not_before_itself, contains_at, one_row_by}

-- ---- the order of numbers, each a key of its own

abbrev pub alone : ℕ → List ℕ
alone n = n ∷ []

alone_before : (a b : ℕ) → a < b → IsBefore (alone a) (alone b)
alone_before a b less = grind arith

pub alone_rise : (numbers : List ℕ) → AllPairs ◌<◌ numbers → IsRising (map alone numbers)
alone_rise numbers rise i j d below within =
    let inside : j < length numbers = omega (arith, within, length-map numbers alone) in
    let less = rise i j 0 below inside in
    let first = get_or-map alone numbers i 0 d (omega (arith, below, inside)) in
    let second = get_or-map alone numbers j 0 d inside in
    subst (λ a. IsBefore a (get_or (map alone numbers) j d)) (sym first) (subst (λ b. IsBefore (alone (get_or numbers i 0)) b) (sym second) (alone_before (get_or numbers i 0) (get_or numbers j 0) less))

pub alone_same : (a b : ℕ) → alone a ≡ alone b → a ≡ b
alone_same a b same = let e : a ∷ [] ≡ b ∷ [] = same in cc

-- ---- descriptors

type_by : (ids : Ids) (type : Option ℕ) (name : List ℕ) → name ≢ [] → unwrap_or (option_and_then (slice_get ids.texts) type) [] ≡ name → (text : ℕ) × (type ≡ Some text) × (slice_get ids.texts text ≡ Some name)
type_by ids None name some is = absurd (some (sym is))
type_by ids (Some text) name some is = (text, refl, from (slice_get ids.texts text) is)
  where
    from : (o : Option (List ℕ)) → unwrap_or o [] ≡ name → o ≡ Some name
    from None e = absurd (some (sym e))
    from (Some other) e = ap Some e

-- a type of some name has a row of texts
pub described : (ids : Ids) (number : ℕ) (name : List ℕ) → name ≢ [] → type_name ids number ≡ name → IsDescribed ids name number
unfolding type_name
described ids number name some is = type_by ids (slice_get ids.types number) name some is

pub described_name : (ids : Ids) (number : ℕ) (name : List ℕ) → IsDescribed ids name number → (number < length ids.types) × (type_name ids number ≡ name)
unfolding type_name
described_name ids number name (text, typed, there) = (
  slice_get_within ids.types number text typed,
  ap (λ (type : Option ℕ). unwrap_or (option_and_then (slice_get ids.texts) type) []) typed ∙ ap (λ o. unwrap_or o []) there,
)

pub text_once : (ids : Ids) → TextsRise ids → (i j : ℕ) (text : List ℕ) → slice_get ids.texts i ≡ Some text → slice_get ids.texts j ≡ Some text → i ≡ j
text_once ids rise = once IsBefore not_before_itself ids.texts rise.rise

not_below_itself : (n : ℕ) → n < n → ⊥
not_below_itself n less = omega arith

-- a name describes one type
pub type_once : (ids : Ids) → TypesRise ids → (i j : ℕ) (name : List ℕ) → IsDescribed ids name i → IsDescribed ids name j → i ≡ j
type_once ids rise i j name (one, typed, there) (other, also, here) =
    let same : one ≡ other = text_once ids rise.texts one other name there here in
    once ◌<◌ not_below_itself ids.types rise.rise i j other (typed ∙ ap Some same) also

-- no descriptor is empty
value_some : (base : List ℕ) → IsValue base → base ≢ []
value_some base (inl letter) none = let e : letter.0 ∷ [] ≡ [] = sym letter.2 ∙ none in cc
value_some base (inr class) none = let e : 76 ∷ class.name ++ 59 ∷ [] ≡ [] = sym class.form ∙ none in cc

array_some : (dims : ℕ) (base : List ℕ) → base ≢ [] → dimensions dims ++ base ≢ []
array_some zero base some none = some none
array_some (suc dims) base some none = let e : 91 ∷ (dimensions dims ++ base) ≡ [] = none in cc

some_not_none : (u : ℕ) (units : List ℕ) → u ∷ units ≡ [] → ⊥
some_not_none u units none = cc

pub descriptor_some : (name : List ℕ) → IsDescriptor name → name ≢ []
descriptor_some name (inl void) none = some_not_none 86 [] (sym void ∙ none)
descriptor_some name (inr value) none = array_some value.dims value.base (λ empty. value_some value.base value.value empty) (sym value.form ∙ none)

-- where each type has a descriptor, what is told of a name that isn't empty is told of each name
pub type_described : (ids : Ids) → TypesFit ids → (number : ℕ) → number < length ids.types → IsDescribed ids (type_name ids number) number
type_described ids fit number within = described ids number (type_name ids number) (descriptor_some (type_name ids number) (fit number within)) refl

pub named_row : (ids : Ids) (name : List ℕ) (o : Option ℕ) → name ≢ [] → IsOneRow (IsDescribed ids name) o → IsOneRow (λ n. (n < length ids.types) × (type_name ids n ≡ name)) o
named_row ids name None some none = λ n is. none n (described ids n name some is.1)
named_row ids name (Some n) some is = described_name ids n name is

pub fit_row : (ids : Ids) (name : List ℕ) (o : Option ℕ) → TypesFit ids → IsOneRow (IsDescribed ids name) o → IsOneRow (λ n. (n < length ids.types) × (type_name ids n ≡ name)) o
fit_row ids name None fit none = λ n is. none n (subst (λ text. IsDescribed ids text n) is.1 (type_described ids fit n is.0))
fit_row ids name (Some n) fit is = described_name ids n name is

pub names_once : (ids : Ids) → TypesRise ids → (i j : ℕ) (name : List ℕ) → name ≢ [] → type_name ids i ≡ name → type_name ids j ≡ name → i ≡ j
names_once ids rise i j name some one other = type_once ids rise i j name (described ids i name some one) (described ids j name some other)

-- ---- texts

pub text_at : (ids : Ids) (number : ℕ) (text : List ℕ) → number < length ids.texts → text_of ids number ≡ text → slice_get ids.texts number ≡ Some text
unfolding text_of
text_at ids number text within is =
    let there : slice_get ids.texts number ≡ Some (get_or ids.texts number []) = slice_get-get_or ids.texts number [] within in
    there ∙ ap Some (sym (ap (λ o. unwrap_or o []) there) ∙ is)

pub text_is : (ids : Ids) (number : ℕ) (text : List ℕ) → slice_get ids.texts number ≡ Some text → text_of ids number ≡ text
unfolding text_of
text_is ids number text there = ap (λ o. unwrap_or o []) there

pub not_contained : (texts : List (List ℕ)) (text : List ℕ) (o : Option ℕ) → MatchOption o (Contains texts text → ⊥) (λ n. slice_get texts n ≡ Some text) → IsOneRow (λ n. slice_get texts n ≡ Some text) o
not_contained texts text None none = λ n there. none (contains_at texts n text there)
not_contained texts text (Some n) is = is

-- the row of the text is the row of the type
pub typed_is_described : (ids : Ids) → TextsRise ids → (name : List ℕ) (text : ℕ) (o : Option ℕ) → slice_get ids.texts text ≡ Some name → IsOneRow (λ n. slice_get ids.types n ≡ Some text) o → IsOneRow (IsDescribed ids name) o
typed_is_described ids rise name text o there answer =
    one_row_by (λ n. slice_get ids.types n ≡ Some text) (IsDescribed ids name) o
    (λ n typed. (text, typed, there))
    (λ n is. let (other, typed, here) = is in typed ∙ ap Some (text_once ids rise other text name here there))
    answer
