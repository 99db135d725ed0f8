-- How parts stand in a list of bytes.
use Rattle.std.proofs.Common.{◌≡◌, ◌≢◌, ℕ, zero, suc, ◌+◌, ◌-◌, ◌*◌, ◌<◌, ◌≤◌, List, [], ◌∷◌, ◌++◌, length, take, drop, refl, sym, ap, subst, ◌∙◌, arith}
use Rattle.std.specs.List.{flat_map}
use Rattle.std.proofs.lemmas.List.{append_assoc, length-append, length-drop, take-append-drop, take_at, drop_at, drop-drop, drop-append-le}
use Rattle.cc_meaning_dex.specs.Numbers.{Stands}
use Rattle.cc_meaning_builder.specs.Forms.{u16_form, little_form}
use Rattle.cc_meaning_builder.specs.Laws.{StandsApart}
use Rattle.cc_builder_laws.specs.Standing.{StandsTogether, StandsLonger, StandsFurther, StandsBehind, StandsWithin, UnitsStand}

-- what comes behind a part
abbrev pub behind : List ℕ → ℕ → List ℕ → List ℕ
behind file at part = drop (length part) (drop at file)

-- a part that stands, and what comes behind it
pub opened : (file : List ℕ) (at : ℕ) (part : List ℕ) → Stands file at part → drop at file ≡ part ++ behind file at part
opened file at part stands = sym (take-append-drop (length part) (drop at file)) ∙ ap (λ front. front ++ behind file at part) stands

pub closed : (file : List ℕ) (at : ℕ) (part rest : List ℕ) → drop at file ≡ part ++ rest → Stands file at part
closed file at part rest is = ap (take (length part)) is ∙ take_at part rest (length part) refl

pub stands_apart : StandsApart
stands_apart file at front back stands =
    let rest = behind file at (front ++ back) in
    let both : drop at file ≡ front ++ (back ++ rest) = opened file at (front ++ back) stands ∙ append_assoc front back rest in
    let second : drop (at + length front) file ≡ back ++ rest = sym (drop-drop (length front) at file) ∙ ap (drop (length front)) both ∙ drop_at front (back ++ rest) (length front) refl in
    (closed file at front (back ++ rest) both, closed file (at + length front) back rest second)

pub stands_together : StandsTogether
stands_together file at front back first second =
    let rest = behind file (at + length front) back in
    let after : behind file at front ≡ back ++ rest = drop-drop (length front) at file ∙ opened file (at + length front) back second in
    closed file at (front ++ back) rest (opened file at front first ∙ ap (λ more. front ++ more) after ∙ sym (append_assoc front back rest))

pub stands_behind : StandsBehind
stands_behind bytes part rest = closed (bytes ++ (part ++ rest)) (length bytes) part rest (drop_at bytes (part ++ rest) (length bytes) refl)

pub stands_further : StandsFurther
stands_further front bytes at part stands =
    let same : drop (length front + at) (front ++ bytes) ≡ drop at bytes = sym (drop-drop at (length front) (front ++ bytes)) ∙ ap (drop at) (drop_at front bytes (length front) refl) in
    ap (take (length part)) same ∙ stands

-- what stands is no longer than what is there
pub stands_few : (file : List ℕ) (at : ℕ) (part : List ℕ) → Stands file at part → length part ≤ length file - at
stands_few file at part stands =
    let e : length (part ++ behind file at part) ≡ length (drop at file) = ap length (sym (opened file at part stands)) in
    omega (arith, e, length-append part (behind file at part), length-drop at file)

some_long : (part : List ℕ) → part ≢ [] → 0 < length part
some_long [] some = absurd (some refl)
some_long (x ∷ xs) some = omega arith

pub stands_within : StandsWithin
stands_within file at part stands some = omega (arith, stands_few file at part stands, some_long part some)

pub nothing_stands : (file : List ℕ) (at : ℕ) → Stands file at []
nothing_stands file at = refl

pub stands_longer : StandsLonger
stands_longer bytes more at [] stands = refl
stands_longer bytes more at (x ∷ xs) stands =
    let few = stands_few bytes at (x ∷ xs) stands in
    let inside : at ≤ length bytes = omega (arith, few) in
    let rest = behind bytes at (x ∷ xs) in
    closed (bytes ++ more) at (x ∷ xs) (rest ++ more)
    (drop-append-le at bytes more inside ∙ ap (λ front. front ++ more) (opened bytes at (x ∷ xs) stands) ∙ append_assoc (x ∷ xs) rest more)

pub units_stand : UnitsStand
unfolding little_form
units_stand file at [] stands place unit is = absurd cc
units_stand file at (u ∷ us) stands zero unit is =
    let same : u ≡ unit = cc in
    let front = (stands_apart file at (u16_form u) (flat_map u16_form us) stands).0 in
    let place : at ≡ at + 0 * 2 = omega arith in
    subst (λ k. Stands file k (u16_form unit)) place (subst (λ k. Stands file at (u16_form k)) same front)
units_stand file at (u ∷ us) stands (suc place) unit is =
    let back = (stands_apart file at (u16_form u) (flat_map u16_form us) stands).1 in
    let further : at + 2 + place * 2 ≡ at + suc place * 2 = omega arith in
    subst (λ k. Stands file k (u16_form unit)) further (units_stand file (at + 2) us back place unit is)
