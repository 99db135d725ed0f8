-- Where the descriptor ends that a text begins with.
use Rattle.std.proofs.Common.{◌≡◌, inl, inr, ℕ, zero, suc, ◌+◌, ◌<◌, ◌≤◌, Bool, true, false, not, eqb, ◌&&◌, nat_lt, List, [], ◌∷◌, ◌++◌, length, drop, Some, None, refl, sym, ap, subst, ◌∙◌, append_assoc, length-append, arith}
use Rattle.std.specs.Prelude.{position}
use Rattle.std.specs.List.{list_all, prefix_len}
use Rattle.std.proofs.lemmas.Bool.Decides.{nat_tests}
use Rattle.cc_meaning_dex.specs.Descriptors.{is_name_unit, is_primitive, names_class, dimensions, IsClassDescriptor, IsValue, IsValueDescriptor}

-- ---- the first place

position_is : (p : ℕ → Bool) (units : List ℕ) (place : ℕ) → prefix_len (λ u. not (p u)) units ≡ place → place < length units → position p units ≡ Some place
position_is p units place at within =
    let inside : nat_lt place (length units) ≡ true = grind arith in
    rw (at, inside) refl

unit_of_name : (u : ℕ) → is_name_unit u ≡ true → eqb u 59 ≡ false
unit_of_name u plain = grind (arith, nat_tests)

both : (a b : Bool) → (a && b) ≡ true → (a ≡ true) × (b ≡ true)
both true b e = (refl, e)
both false b e = absurd cc

name_prefix : (name rest : List ℕ) → list_all is_name_unit name ≡ true → prefix_len (λ u. not (eqb u 59)) (name ++ 59 ∷ rest) ≡ length name
name_prefix [] rest plain = refl
name_prefix (u ∷ us) rest plain =
    let parts = both (is_name_unit u) (list_all is_name_unit us) plain in
    let other : eqb u 59 ≡ false = unit_of_name u parts.0 in
    let more = name_prefix us rest parts.1 in
    rw (other, more) (omega arith)

-- a class's descriptor ends at its first `;`
class_ends : (name rest : List ℕ) → list_all is_name_unit name ≡ true → position (λ u. eqb u 59) (76 ∷ (name ++ 59 ∷ rest)) ≡ Some (length name + 1)
class_ends name rest plain =
    let more = name_prefix name rest plain in
    position_is (λ u. eqb u 59) (76 ∷ (name ++ 59 ∷ rest)) (length name + 1) (omega (arith, more)) (omega (arith, length-append name (59 ∷ rest)))

-- ---- first units

-- what a letter or a class begins with
pub record Begins (base : List ℕ) : Type 0 where
  pub first : ℕ
  pub others : List ℕ
  pub form : base ≡ first ∷ others
  pub no_array : eqb first 91 ≡ false
  pub no_close : eqb first 41 ≡ false

letter_begins : (u : ℕ) → is_primitive u ≡ true → (eqb u 91 ≡ false) × (eqb u 41 ≡ false)
letter_begins u is = (grind (arith, nat_tests), grind (arith, nat_tests))

pub value_begins : (base : List ℕ) → IsValue base → Begins base
value_begins base (inl letter) = record { first = letter.0; others = []; form = letter.2; no_array = (letter_begins letter.0 letter.1).0; no_close = (letter_begins letter.0 letter.1).1 }
value_begins base (inr class) = record { first = 76; others = class.name ++ 59 ∷ []; form = class.form; no_array = refl; no_close = refl }

-- brackets end where a letter or a class begins
brackets : (dims : ℕ) (first : ℕ) (others : List ℕ) → eqb first 91 ≡ false → prefix_len (λ u. not (not (eqb u 91))) (dimensions dims ++ first ∷ others) ≡ dims
brackets zero first others other = rw other refl
brackets (suc dims) first others other = let more = brackets dims first others other in omega (arith, more)

pub brackets_end : (dims : ℕ) (base rest : List ℕ) → IsValue base → position (λ u. not (eqb u 91)) (dimensions dims ++ (base ++ rest)) ≡ Some dims
brackets_end dims base rest value =
    let begins = value_begins base value in
    let form : base ++ rest ≡ begins.first ∷ (begins.others ++ rest) = ap (λ b. b ++ rest) begins.form in
    let at = brackets dims begins.first (begins.others ++ rest) begins.no_array in
    subst (λ b. position (λ u. not (eqb u 91)) (dimensions dims ++ b) ≡ Some dims) (sym form)
    (position_is (λ u. not (eqb u 91)) (dimensions dims ++ begins.first ∷ (begins.others ++ rest)) dims at (inside dims (begins.first ∷ (begins.others ++ rest)) (omega arith)))
  where
    inside : (n : ℕ) (units : List ℕ) → 0 < length units → n < length (dimensions n ++ units)
    inside zero units some = some
    inside (suc n) units some = let more = inside n units some in omega (arith, more)

pub behind_dimensions : (dims : ℕ) (units : List ℕ) → drop dims (dimensions dims ++ units) ≡ units
behind_dimensions zero units = refl
behind_dimensions (suc dims) units = behind_dimensions dims units

pub length_dimensions : (dims : ℕ) (units : List ℕ) → length (dimensions dims ++ units) ≡ dims + length units
length_dimensions zero units = omega arith
length_dimensions (suc dims) units = let more = length_dimensions dims units in omega (arith, more)

-- a descriptor of a value begins with no `)`
pub no_close : (descriptor : List ℕ) → IsValueDescriptor descriptor → (first : ℕ) × (others : List ℕ) × (descriptor ≡ first ∷ others) × (eqb first 41 ≡ false)
no_close descriptor is = from is.dims is.form
  where
    from : (dims : ℕ) → descriptor ≡ dimensions dims ++ is.base → (first : ℕ) × (others : List ℕ) × (descriptor ≡ first ∷ others) × (eqb first 41 ≡ false)
    from zero form = let begins = value_begins is.base is.value in (begins.first, begins.others, form ∙ begins.form, begins.no_close)
    from (suc dims) form = (91, dimensions dims ++ is.base, form, refl)

-- ---- how long descriptors are

class_form : (name rest : List ℕ) → (76 ∷ name ++ 59 ∷ []) ++ rest ≡ 76 ∷ (name ++ 59 ∷ rest)
class_form name rest = ap (λ units. 76 ∷ units) (append_assoc name (59 ∷ []) rest)

class_place : (units base rest : List ℕ) → IsClassDescriptor base → units ≡ base ++ rest → (n : ℕ) × (length base ≡ n + 1) × (position (λ u. eqb u 59) units ≡ Some n)
class_place units base rest class is =
    let form : units ≡ 76 ∷ (class.name ++ 59 ∷ rest) = is ∙ (ap (λ b. b ++ rest) class.form ∙ class_form class.name rest) in
    let long : length base ≡ length class.name + 1 + 1 = ap length class.form ∙ omega (arith, length-append class.name (59 ∷ [])) in
    (length class.name + 1, long, ap (position (λ u. eqb u 59)) form ∙ class_ends class.name rest class.plain)

no_letter : (u : ℕ) (units rest : List ℕ) → is_primitive u ≡ true → units ≡ u ∷ rest → names_class units ≡ true → ⊥
no_letter u units rest letter is first =
    let head : eqb u 76 ≡ true = sym (ap names_class is) ∙ first in
    let same : u ≡ 76 = grind (arith, nat_tests) in
    let bad : is_primitive 76 ≡ true = subst (λ v. is_primitive v ≡ true) same letter in
    absurd (let e : false ≡ true = bad in cc)

pub class_length : (units base rest : List ℕ) (place : ℕ) → IsValue base → units ≡ base ++ rest → names_class units ≡ true → Some place ≡ position (λ u. eqb u 59) units → place + 1 ≡ length base
class_length units base rest place (inl letter) is first at = absurd (no_letter letter.0 units rest letter.1 (is ∙ ap (λ b. b ++ rest) letter.2) first)
class_length units base rest place (inr class) is first at =
    let (n, long, there) = class_place units base rest class is in
    let e : Some n ≡ Some place = sym (at ∙ there) in
    let same : n ≡ place = cc in
    omega (arith, same, long)

pub class_has_end : (units base rest : List ℕ) → IsValue base → units ≡ base ++ rest → names_class units ≡ true → None ≡ position (λ u. eqb u 59) units → ⊥
class_has_end units base rest (inl letter) is first at = absurd (no_letter letter.0 units rest letter.1 (is ∙ ap (λ b. b ++ rest) letter.2) first)
class_has_end units base rest (inr class) is first at =
    let (n, long, there) = class_place units base rest class is in
    absurd (let e : None ≡ Some n = at ∙ there in cc)

-- ---- with dimensions

dims_form : (units descriptor rest : List ℕ) (value : IsValueDescriptor descriptor) → units ≡ descriptor ++ rest → units ≡ dimensions value.dims ++ (value.base ++ rest)
dims_form units descriptor rest value is = is ∙ (ap (λ d. d ++ rest) value.form ∙ append_assoc (dimensions value.dims) value.base rest)

pub descriptor_length : (units descriptor rest back : List ℕ) (dims base : ℕ) → IsValueDescriptor descriptor → units ≡ descriptor ++ rest →
    Some dims ≡ position (λ u. not (eqb u 91)) units → back ≡ drop dims units → ((b r : List ℕ) → IsValue b → back ≡ b ++ r → base ≡ length b) → dims + base ≡ length descriptor
descriptor_length units descriptor rest back dims base value is at split long =
    let form = dims_form units descriptor rest value is in
    let e : Some dims ≡ Some value.dims = at ∙ (ap (position (λ u. not (eqb u 91))) form ∙ brackets_end value.dims value.base rest value.value) in
    let same : dims ≡ value.dims = cc in
    let behind : back ≡ value.base ++ rest = split ∙ (ap (λ n. drop n units) same ∙ (ap (drop value.dims) form ∙ behind_dimensions value.dims (value.base ++ rest))) in
    let whole = ap length value.form ∙ length_dimensions value.dims value.base in
    omega (arith, same, whole, long value.base rest value.value behind)

pub descriptor_has_base : (units descriptor rest : List ℕ) → IsValueDescriptor descriptor → units ≡ descriptor ++ rest → None ≡ position (λ u. not (eqb u 91)) units → ⊥
descriptor_has_base units descriptor rest value is at =
    let form = dims_form units descriptor rest value is in
    absurd (let e : None ≡ Some value.dims = at ∙ (ap (position (λ u. not (eqb u 91))) form ∙ brackets_end value.dims value.base rest value.value) in cc)

-- what is no class is a letter
pub letter_length : (units base rest : List ℕ) → IsValue base → units ≡ base ++ rest → names_class units ≡ false → (length base ≡ 1) × (1 ≤ length units)
letter_length units base rest (inl letter) is other =
    let form : units ≡ letter.0 ∷ rest = is ∙ ap (λ b. b ++ rest) letter.2 in
    (ap length letter.2, omega (arith, ap length form))
letter_length units base rest (inr class) is other =
    let form : units ≡ 76 ∷ (class.name ++ 59 ∷ rest) = is ∙ (ap (λ b. b ++ rest) class.form ∙ class_form class.name rest) in
    absurd (let e : false ≡ true = sym other ∙ ap names_class form in cc)
