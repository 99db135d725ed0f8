-- Pairs of UTF-16, and the descriptor of a class.
use Rattle.std.proofs.Common.{◌≡◌, ◌≢◌, ◌↔◌, inl, inr, ℕ, suc, ◌+◌, ◌-◌, ◌≤◌, Bool, true, false, not, List, [], ◌∷◌, ◌++◌, length, get_or, take, drop, IsTrue, All, refl, sym, ap, subst, ◌∙◌, arith}
use mathlib.Core.Bool.{beq}
use Rattle.std.proofs.lemmas.List.{take_more, take_all, take_at, length-take, length-drop, length-append}
use Rattle.cc_meaning_plain.specs.Plain.{IsHigh, IsLow, IsPaired, IsNameUnit, IsClassDescriptor}

-- what is left is paired, where the first half of a pair may stand before it
abbrev pub IsPairedAfter : Bool → List ℕ → Type 0
IsPairedAfter false units = IsPaired units
IsPairedAfter true [] = ⊥
IsPairedAfter true (u ∷ rest) = IsLow u × IsPaired rest

-- the second half of a pair stands just behind a first half
pub not_paired : (begun ends : Bool) (u : ℕ) (rest : List ℕ) → IsTrue ends ↔ IsLow u → begun ≢ ends → IsPairedAfter begun (u ∷ rest) → ⊥
not_paired false false u rest low differ paired = differ refl
not_paired true true u rest low differ paired = differ refl
not_paired true false u rest low differ paired = absurd (let e : false ≡ true = low.1 paired.0 in cc)
not_paired false true u [] low differ paired = paired.1 (low.0 refl)
not_paired false true u (v ∷ rest) low differ (inl pair) = omega (arith, pair.0.0.1, (low.0 refl).0)
not_paired false true u (v ∷ rest) low differ (inr single) = single.0.1 (low.0 refl)

high_is_not_low : (u : ℕ) → IsHigh u → IsLow u → ⊥
high_is_not_low u high low = omega (arith, high.1, low.0)

pub false_is_not : (b : Bool) (P : Type 0) → IsTrue b ↔ P → b ≡ false → P → ⊥
false_is_not b P is e p = let f : b ≡ true = is.1 p in absurd (cc)

-- one more unit
paired_end : (begins : Bool) (u : ℕ) → IsTrue begins ↔ IsHigh u → (IsLow u → ⊥) → IsPaired (u ∷ []) ↔ IsPairedAfter begins []
paired_end true u high low = (λ paired. paired.0 (high.0 refl), λ none. absurd none)
paired_end false u high low = (λ paired. tt, λ _. (false_is_not false (IsHigh u) high refl, low))

paired_single : (begins : Bool) (u v : ℕ) (rest : List ℕ) → IsTrue begins ↔ IsHigh u → (IsLow u → ⊥) → IsPaired (u ∷ v ∷ rest) ↔ IsPairedAfter begins (v ∷ rest)
paired_single true u v rest high low = (
  λ paired. elim paired [ inl pair ↦ (pair.0.1, pair.1) | inr single ↦ absurd (single.0.0 (high.0 refl)) ],
  λ pair. inl ((high.0 refl, pair.0), pair.1),
)
paired_single false u v rest high low = (
  λ paired. elim paired [ inl pair ↦ absurd (false_is_not false (IsHigh u) high refl pair.0.0) | inr single ↦ single.1 ],
  λ single. inr ((false_is_not false (IsHigh u) high refl, low), single),
)

paired_open : (begins : Bool) (u : ℕ) (rest : List ℕ) → IsTrue begins ↔ IsHigh u → IsLow u → (IsLow u × IsPaired rest) ↔ IsPairedAfter begins rest
paired_open true u rest high low = absurd (high_is_not_low u (high.0 refl) low)
paired_open false u rest high low = (λ pair. pair.1, λ paired. (low, paired))

-- after a unit that ends a pair just where one is begun, the rest is to be paired
pub paired_more : (begun ends begins : Bool) (u : ℕ) (rest : List ℕ) → IsTrue ends ↔ IsLow u → IsTrue begins ↔ IsHigh u → begun ≡ ends → IsPairedAfter begun (u ∷ rest) ↔ IsPairedAfter begins rest
paired_more true false begins u rest low high same = absurd (cc)
paired_more false true begins u rest low high same = absurd (cc)
paired_more true true begins u rest low high same = paired_open begins u rest high (low.0 refl)
paired_more false false begins u [] low high same = paired_end begins u high (false_is_not false (IsLow u) low refl)
paired_more false false begins u (v ∷ rest) low high same = paired_single begins u v rest high (false_is_not false (IsLow u) low refl)

pub paired_all : (begun : Bool) → IsTrue (not begun) ↔ IsPairedAfter begun []
paired_all true = (λ e. absurd (cc), λ none. absurd none)
paired_all false = (λ e. tt, λ _. refl)

pub same_bool : (a b : Bool) → not (beq a b) ≡ false → a ≡ b
same_bool true true e = refl
same_bool false false e = refl
same_bool true false e = absurd (cc)
same_bool false true e = absurd (cc)

pub other_bool : (a b : Bool) → not (beq a b) ≡ true → a ≢ b
other_bool true true e = absurd (cc)
other_bool false false e = absurd (cc)
other_bool true false e = λ same. cc
other_bool false true e = λ same. cc

-- ---- descriptors

-- the name between the first unit and the last
abbrev pub name_of : List ℕ → List ℕ
name_of units = take (length units - 1 - 1) (drop 1 units)

last_apart : (us : List ℕ) (n : ℕ) → length us ≡ n + 1 → get_or us n 0 ≡ 59 → us ≡ take n us ++ 59 ∷ []
last_apart us n len last =
    let more = take_more us n 0 (omega arith) in
    let all = take_all (n + 1) us (omega arith) in
    sym all ∙ more ∙ ap (λ x. take n us ++ x ∷ []) last

-- units that begin with `L` and end with `;` have their name between
form_of : (units : List ℕ) → 3 ≤ length units → get_or units 0 0 ≡ 76 → get_or units (length units - 1) 0 ≡ 59 → units ≡ 76 ∷ name_of units ++ 59 ∷ []
form_of [] some first last = absurd (omega arith)
form_of (u ∷ us) some first last =
    let n = length (u ∷ us) - 1 - 1 in
    let place : length (u ∷ us) - 1 ≡ suc n = omega arith in
    let ends : get_or us n 0 ≡ 59 = subst (λ (k : ℕ). get_or (u ∷ us) k 0 ≡ 59) place last in
    let rest = last_apart us n (omega arith) ends in
    cc

-- the name is the only one
name_is : (units name : List ℕ) → units ≡ 76 ∷ name ++ 59 ∷ [] → name_of units ≡ name
name_is units name form =
    let len : length name ≡ length (76 ∷ name ++ 59 ∷ []) - 1 - 1 = omega (arith, length-append name (59 ∷ [])) in
    ap name_of form ∙ take_at name (59 ∷ []) (length (76 ∷ name ++ 59 ∷ []) - 1 - 1) len

name_some : (units : List ℕ) → 3 ≤ length units → name_of units ≢ []
name_some units some none =
    omega (arith, ap length none, length-take (length units - 1 - 1) (drop 1 units), length-drop 1 units)

-- such units are a descriptor just if their name is a class's
pub descriptor_is : (units : List ℕ) → 3 ≤ length units → get_or units 0 0 ≡ 76 → get_or units (length units - 1) 0 ≡ 59 → (All IsNameUnit (name_of units) × IsPaired (name_of units)) ↔ IsClassDescriptor units
descriptor_is units some first last = (
  λ fits. record { name = name_of units; form = form_of units some first last; some = name_some units some; plain = fits.0; paired = fits.1 },
  λ is. let same = sym (name_is units is.name is.form) in (subst (λ name. All IsNameUnit name) same is.plain, subst (λ name. IsPaired name) same is.paired),
)
