-- That the tests of pairs and of descriptors say what a pair and a descriptor is.
use Rattle.std.proofs.Common.{◌≡◌, ◌≢◌, ◌↔◌, ◌⊎◌, inl, inr, ℕ, zero, suc, ◌+◌, ◌-◌, ◌<◌, ◌≤◌, Bool, true, false, not, ◌&&◌, ◌||◌, cond, eqb, nat_le, List, [], ◌∷◌, ◌++◌, length, get_or, take, drop, IsTrue, refl, sym, ap, subst, ◌∙◌, add-one, arith}
use Rattle.std.specs.List.{list_all}
use Rattle.std.proofs.lemmas.Bool.Decides.{nat_tests}
use Rattle.std.proofs.lemmas.List.{take_more, take_all, take_at, length-take, length-drop, length-append, get_or_push}
use Rattle.cc_meaning_dex.specs.Descriptors.{IsHigh, IsLow, IsPaired, IsClassDescriptor, IsValue, IsDescriptor, dimensions, is_high, is_low, is_paired, paired_after, is_name_unit, name_of, is_class_descriptor, is_primitive, dims_of, is_base, is_descriptor}
use Rattle.cc_meaning_dex.specs.TableLaws.{PairsAgree, DescriptorsAgree}

both_true : (a b : Bool) → (a && b) ≡ true → (a ≡ true) × (b ≡ true)
both_true true b e = (refl, e)
both_true false b e = absurd (cc)

true_both : (a b : Bool) → a ≡ true → b ≡ true → (a && b) ≡ true
true_both true b first second = second
true_both false b first second = absurd (cc)

-- ---- pairs

high_is : (u : ℕ) → IsTrue (is_high u) ↔ IsHigh u
high_is u = (
  λ e. let both = both_true (nat_le 55296 u) (nat_le u 56319) e in (grind (arith, nat_tests), grind (arith, nat_tests)),
  λ high. true_both (nat_le 55296 u) (nat_le u 56319) (grind (arith, nat_tests, high.0)) (grind (arith, nat_tests, high.1)),
)

low_is : (u : ℕ) → IsTrue (is_low u) ↔ IsLow u
low_is u = (
  λ e. let both = both_true (nat_le 56320 u) (nat_le u 57343) e in (grind (arith, nat_tests), grind (arith, nat_tests)),
  λ low. true_both (nat_le 56320 u) (nat_le u 57343) (grind (arith, nat_tests, low.0)) (grind (arith, nat_tests, low.1)),
)

-- what is left is paired, where the first half of a pair may stand before it
abbrev IsPairedAfter : Bool → List ℕ → Type 0
IsPairedAfter false units = IsPaired units
IsPairedAfter true [] = ⊥
IsPairedAfter true (u ∷ rest) = IsLow u × IsPaired rest

high_is_not_low : (u : ℕ) → IsHigh u → IsLow u → ⊥
high_is_not_low u high low = omega (arith, high.1, low.0)

false_is_not : (b : Bool) (P : Type 0) → IsTrue b ↔ P → b ≡ false → P → ⊥
false_is_not b P is e p = let f : b ≡ true = is.1 p in absurd (cc)

paired_end : (begins : Bool) (u : ℕ) → IsTrue begins ↔ IsHigh u → (IsLow u → ⊥) → IsPaired (u ∷ []) ↔ IsPairedAfter begins []
paired_end true u high low = (λ paired. paired.0 (high.0 refl), λ none. absurd none)
paired_end false u high low = (λ paired. tt, λ _. (false_is_not false (IsHigh u) high refl, low))

paired_single : (begins : Bool) (u v : ℕ) (rest : List ℕ) → IsTrue begins ↔ IsHigh u → (IsLow u → ⊥) → IsPaired (u ∷ v ∷ rest) ↔ IsPairedAfter begins (v ∷ rest)
paired_single true u v rest high low = (
  λ paired. elim paired [ inl pair ↦ (pair.0.1, pair.1) | inr single ↦ absurd (single.0.0 (high.0 refl)) ],
  λ pair. inl ((high.0 refl, pair.0), pair.1),
)
paired_single false u v rest high low = (
  λ paired. elim paired [ inl pair ↦ absurd (false_is_not false (IsHigh u) high refl pair.0.0) | inr single ↦ single.1 ],
  λ single. inr ((false_is_not false (IsHigh u) high refl, low), single),
)

paired_open : (begins : Bool) (u : ℕ) (rest : List ℕ) → IsTrue begins ↔ IsHigh u → IsLow u → (IsLow u × IsPaired rest) ↔ IsPairedAfter begins rest
paired_open true u rest high low = absurd (high_is_not_low u (high.0 refl) low)
paired_open false u rest high low = (λ pair. pair.1, λ paired. (low, paired))

-- after a unit that ends a pair just where one is begun, the rest is to be paired
after_unit : (begun ends begins : Bool) (u : ℕ) (rest : List ℕ) → IsTrue ends ↔ IsLow u → IsTrue begins ↔ IsHigh u → cond ends begun (not begun) ≡ true → IsPairedAfter begun (u ∷ rest) ↔ IsPairedAfter begins rest
after_unit true false begins u rest low high same = absurd (cc)
after_unit false true begins u rest low high same = absurd (cc)
after_unit true true begins u rest low high same = paired_open begins u rest high (low.0 refl)
after_unit false false begins u [] low high same = paired_end begins u high (false_is_not false (IsLow u) low refl)
after_unit false false begins u (v ∷ rest) low high same = paired_single begins u v rest high (false_is_not false (IsLow u) low refl)

-- the second half of a pair stands just behind a first half
unit_fits : (begun ends : Bool) (u : ℕ) (rest : List ℕ) → IsTrue ends ↔ IsLow u → IsPairedAfter begun (u ∷ rest) → cond ends begun (not begun) ≡ true
unit_fits true true u rest low paired = refl
unit_fits false false u rest low paired = refl
unit_fits true false u rest low paired = absurd (let e : false ≡ true = low.1 paired.0 in cc)
unit_fits false true u [] low paired = absurd (paired.1 (low.0 refl))
unit_fits false true u (v ∷ rest) low (inl pair) = absurd (omega (arith, pair.0.0.1, (low.0 refl).0))
unit_fits false true u (v ∷ rest) low (inr single) = absurd (single.0.1 (low.0 refl))

end_is : (begun : Bool) → IsTrue (not begun) ↔ IsPairedAfter begun []
end_is true = (λ e. absurd (cc), λ none. absurd none)
end_is false = (λ e. tt, λ _. refl)

paired_is : (units : List ℕ) (begun : Bool) → IsTrue (paired_after begun units) ↔ IsPairedAfter begun units
unfolding paired_after
paired_is [] begun = end_is begun
paired_is (u ∷ rest) begun =
    let behind = paired_is rest (is_high u) in
    let low = low_is u in
    let high = high_is u in (
      λ e.
          let both = both_true (cond (is_low u) begun (not begun)) (paired_after (is_high u) rest) e in
          (after_unit begun (is_low u) (is_high u) u rest low high both.0).1 (behind.0 both.1),
      λ paired.
          let fits = unit_fits begun (is_low u) u rest low paired in
          true_both (cond (is_low u) begun (not begun)) (paired_after (is_high u) rest) fits (behind.1 ((after_unit begun (is_low u) (is_high u) u rest low high fits).0 paired)),
    )

pub pairs_agree : PairsAgree
pairs_agree units = paired_is units false

-- ---- descriptors of classes

same_number : (m n : ℕ) → eqb m n ≡ true → m ≡ n
same_number m n e = grind (arith, nat_tests)

number_same : (m n : ℕ) → m ≡ n → eqb m n ≡ true
number_same m n e = grind (arith, nat_tests)

last_apart : (us : List ℕ) (n : ℕ) → length us ≡ n + 1 → get_or us n 0 ≡ 59 → us ≡ take n us ++ 59 ∷ []
last_apart us n len last =
    let more = take_more us n 0 (omega arith) in
    let all = take_all (n + 1) us (omega arith) in
    sym all ∙ more ∙ ap (λ x. take n us ++ x ∷ []) last

-- units that begin with `L` and end with `;` have their name between
form_of : (units : List ℕ) → 3 ≤ length units → get_or units 0 0 ≡ 76 → get_or units (length units - 1) 0 ≡ 59 → units ≡ 76 ∷ name_of units ++ 59 ∷ []
form_of [] some first last = absurd (omega arith)
form_of (u ∷ us) some first last =
    let n = length (u ∷ us) - 1 - 1 in
    let place : length (u ∷ us) - 1 ≡ suc n = omega arith in
    let ends : get_or us n 0 ≡ 59 = subst (λ (k : ℕ). get_or (u ∷ us) k 0 ≡ 59) place last in
    let rest = last_apart us n (omega arith) ends in
    cc

name_some : (units : List ℕ) → 3 ≤ length units → name_of units ≢ []
name_some units some none =
    omega (arith, ap length none, length-take (length units - 1 - 1) (drop 1 units), length-drop 1 units)

class_is : (units : List ℕ) → is_class_descriptor units ≡ true → IsClassDescriptor units
unfolding is_class_descriptor
class_is units e =
    let long = nat_le 3 (length units) in
    let first = eqb (get_or units 0 0) 76 in
    let last = eqb (get_or units (length units - 1) 0) 59 in
    let plain = list_all is_name_unit (name_of units) in
    let a = both_true (((long && first) && last) && plain) (is_paired (name_of units)) e in
    let b = both_true ((long && first) && last) plain a.0 in
    let c = both_true (long && first) last b.0 in
    let d = both_true long first c.0 in
    let some : 3 ≤ length units = grind (arith, nat_tests, d.0) in
    record {
      name = name_of units;
      form = form_of units some (same_number (get_or units 0 0) 76 d.1) (same_number (get_or units (length units - 1) 0) 59 c.1);
      some = name_some units some;
      plain = b.1;
      paired = (pairs_agree (name_of units)).0 a.1;
    }

some_length : (name : List ℕ) → name ≢ [] → 0 < length name
some_length [] some = absurd (some refl)
some_length (u ∷ us) some = omega arith

class_from : (name : List ℕ) → name ≢ [] → IsTrue (list_all is_name_unit name) → IsPaired name → is_class_descriptor (76 ∷ name ++ 59 ∷ []) ≡ true
unfolding is_class_descriptor
class_from name some plain paired =
    let units = 76 ∷ name ++ 59 ∷ [] in
    let len : length units ≡ length name + 2 = omega (arith, length-append name (59 ∷ [])) in
    let long : nat_le 3 (length units) ≡ true = grind (arith, nat_tests, some_length name some) in
    let is : name_of units ≡ name = take_at name (59 ∷ []) (length units - 1 - 1) (omega (arith, len)) in
    let end : get_or units (length units - 1) 0 ≡ 59 = get_or_push (76 ∷ name) 59 0 (length units - 1) (omega (arith, len)) in
    let last : eqb (get_or units (length units - 1) 0) 59 ≡ true = number_same (get_or units (length units - 1) 0) 59 end in
    let named : list_all is_name_unit (name_of units) ≡ true = subst (λ n. list_all is_name_unit n ≡ true) (sym is) plain in
    let pairs : is_paired (name_of units) ≡ true = subst (λ n. is_paired n ≡ true) (sym is) ((pairs_agree name).1 paired) in
    true_both _ (is_paired (name_of units)) (true_both _ (list_all is_name_unit (name_of units)) (true_both _ (eqb (get_or units (length units - 1) 0) 59) (true_both (nat_le 3 (length units)) true long refl) last) named) pairs

-- ---- dimensions

front_by : (more : Bool) (u : ℕ) (us : List ℕ) → eqb u 91 ≡ more → us ≡ dimensions (dims_of us) ++ drop (dims_of us) us →
    u ∷ us ≡ dimensions (cond more (dims_of us + 1) 0) ++ drop (cond more (dims_of us + 1) 0) (u ∷ us)
front_by true u us is rest =
    rw (add-one (dims_of us)) (ap (λ v. v ∷ us) (same_number u 91 is) ∙ ap (λ xs. 91 ∷ xs) rest)
front_by false u us is rest = refl

front_dims : (units : List ℕ) → units ≡ dimensions (dims_of units) ++ drop (dims_of units) units
unfolding dims_of
front_dims [] = refl
front_dims (u ∷ us) = front_by (eqb u 91) u us refl (front_dims us)

dims_front : (n : ℕ) (base : List ℕ) → dims_of base ≡ 0 → dims_of (dimensions n ++ base) ≡ n
unfolding dims_of
dims_front zero base none = none
dims_front (suc n) base none = omega (arith, dims_front n base none)

behind_dims : (n : ℕ) (base : List ℕ) → drop n (dimensions n ++ base) ≡ base
behind_dims zero base = refl
behind_dims (suc n) base = behind_dims n base

-- ---- all descriptors

or_true : (a b : Bool) → (a || b) ≡ true → (a ≡ true) ⊎ (b ≡ true)
or_true true b e = inl refl
or_true false b e = inr e

true_or : (a b : Bool) → a ≡ true → (a || b) ≡ true
true_or true b e = refl
true_or false b e = absurd (cc)

base_is : (dims : ℕ) (base : List ℕ) → is_base dims base ≡ true → ((dims ≡ 0) × (base ≡ 86 ∷ [])) ⊎ IsValue base
base_is dims [] e = absurd (cc)
base_is dims (u ∷ []) e =
    elim (or_true (is_primitive u) (eqb dims 0 && eqb u 86) e) [
      | inl letter ↦ inr (inl (u, letter, refl))
      | inr void ↦ (let both = both_true (eqb dims 0) (eqb u 86) void in inl (same_number dims 0 both.0, ap (λ v. v ∷ []) (same_number u 86 both.1)))
    ]
base_is dims (u ∷ v ∷ rest) e = inr (inr (class_is (u ∷ v ∷ rest) e))

descriptor_is : (units : List ℕ) → is_descriptor units ≡ true → IsDescriptor units
unfolding is_descriptor
descriptor_is units e =
    let dims = dims_of units in
    let base = drop dims units in
    let both = both_true (nat_le dims 255) (is_base dims base) e in
    elim (base_is dims base both.1) [
      | inl void ↦ inl (front_dims units ∙ ap (λ n. dimensions n ++ base) void.0 ∙ void.1)
      | inr value ↦ inr (record { dims = dims; base = base; form = front_dims units; few = grind (arith, nat_tests, both.0); value = value })
    ]

no_dims_by : (more : Bool) (u : ℕ) → eqb u 91 ≡ more → IsTrue (is_primitive u) → more ≡ false
no_dims_by false u is letter = refl
no_dims_by true u is letter = absurd (let none : false ≡ true = subst (λ v. is_primitive v ≡ true) (same_number u 91 is) letter in cc)

value_no_dims : (base : List ℕ) → IsValue base → dims_of base ≡ 0
unfolding dims_of
value_no_dims base (inl letter) = rw (letter.2, no_dims_by (eqb letter.0 91) letter.0 refl letter.1) refl
value_no_dims base (inr class) = rw class.form refl

class_base : (dims : ℕ) (name : List ℕ) → name ≢ [] → is_class_descriptor (76 ∷ name ++ 59 ∷ []) ≡ true → is_base dims (76 ∷ name ++ 59 ∷ []) ≡ true
class_base dims [] some e = absurd (some refl)
class_base dims (u ∷ us) some e = e

value_base : (dims : ℕ) (base : List ℕ) → IsValue base → is_base dims base ≡ true
value_base dims base (inl letter) = rw letter.2 (true_or (is_primitive letter.0) (eqb dims 0 && eqb letter.0 86) letter.1)
value_base dims base (inr class) =
    subst (λ units. is_base dims units ≡ true) (sym class.form) (class_base dims class.name class.some (class_from class.name class.some class.plain class.paired))

value_from : (dims : ℕ) (base : List ℕ) → dims ≤ 255 → IsValue base → is_descriptor (dimensions dims ++ base) ≡ true
unfolding is_descriptor
value_from dims base few value =
    let few_dims : nat_le dims 255 ≡ true = grind (arith, nat_tests) in
    rw (dims_front dims base (value_no_dims base value), behind_dims dims base, few_dims) (value_base dims base value)

void_from : is_descriptor (86 ∷ []) ≡ true
unfolding is_descriptor dims_of
void_from = refl

is_one : (units : List ℕ) → IsDescriptor units → is_descriptor units ≡ true
is_one units (inl void) = rw void void_from
is_one units (inr d) = rw d.form (value_from d.dims d.base d.few d.value)

pub descriptors_agree : DescriptorsAgree
descriptors_agree units = (descriptor_is units, is_one units)
