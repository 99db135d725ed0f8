-- Each form in MUTF-8 is read as its unit, and what is read as a unit is its form.
use Rattle.std.proofs.Common.{◌≡◌, ℕ, ◌+◌, ◌-◌, ◌*◌, ◌/◌, ◌%◌, ◌<◌, ◌≤◌, ◌⊎◌, Bool, true, false, List, [], ◌∷◌, ◌++◌, length, drop, Some, None, Result, Ok, Err, refl, sym, ap, ◌∙◌, subst, inl, inr, arith}
use Rattle.std.specs.Prelude.{nat_le, ◌==◌, ◌&&◌, ◌||◌, if◌then◌else◌}
use Rattle.std.proofs.lemmas.Bool.{cases_lt, cases_eq}
use Rattle.std.proofs.lemmas.Bool.Decides.{nat_tests}
use Rattle.cc_meaning.specs.declared.fault.TextFault.{TextFault}
use Rattle.cc_meaning.specs.declared.fault.TextFault.TheVariants.{CutOff, BadForm}
use Rattle.cc_meaning_dex.specs.Mutf8.{Front, two_bytes, three_bytes, unit_form, goes_on, begins_three, front_of_two, front_of_three, front_of}

pub unit_form-one : (u : ℕ) → 0 < u → u < 128 → unit_form u ≡ u ∷ []
unfolding unit_form
unit_form-one u h k = grind (arith, nat_tests)

pub unit_form-two : (u : ℕ) → (u ≡ 0) ⊎ (128 ≤ u) → u < 2048 → unit_form u ≡ two_bytes u
unfolding unit_form
unit_form-two u h k = grind (arith, nat_tests)

pub unit_form-three : (u : ℕ) → 2048 ≤ u → unit_form u ≡ three_bytes u
unfolding unit_form
unit_form-three u h = grind (arith, nat_tests)

-- what stands in front, by the first byte
pub front_of-zero : (at a : ℕ) (bs : List ℕ) → a ≡ 0 → front_of at (a ∷ bs) ≡ Ok None
unfolding front_of
front_of-zero at a bs h = grind (arith, nat_tests)

pub front_of-one : (at a : ℕ) (bs : List ℕ) → 0 < a → a < 128 → front_of at (a ∷ bs) ≡ Ok (Some (a, 1))
unfolding front_of
front_of-one at a bs h k = grind (arith, nat_tests)

pub front_of-stray : (at a : ℕ) (bs : List ℕ) → 128 ≤ a → a < 192 → front_of at (a ∷ bs) ≡ Err (BadForm at)
unfolding front_of
front_of-stray at a bs h k = grind (arith, nat_tests)

pub front_of-two : (at a : ℕ) (bs : List ℕ) → 192 ≤ a → a < 224 → front_of at (a ∷ bs) ≡ front_of_two at a bs
unfolding front_of
front_of-two at a bs h k = grind (arith, nat_tests)

pub front_of-three : (at a : ℕ) (bs : List ℕ) → 224 ≤ a → a < 240 → front_of at (a ∷ bs) ≡ front_of_three at a bs
unfolding front_of
front_of-three at a bs h k = grind (arith, nat_tests)

pub front_of-high : (at a : ℕ) (bs : List ℕ) → 240 ≤ a → front_of at (a ∷ bs) ≡ Err (BadForm at)
unfolding front_of
front_of-high at a bs h = grind (arith, nat_tests)

pub front_of-nil : (at : ℕ) → front_of at [] ≡ Err CutOff
unfolding front_of
front_of-nil at = refl

-- a choice that gives a value has passed its test
if-Ok : {A : Type 0} (t : Bool) (v w : A) (e : TextFault) → (if t then Ok v else Err e) ≡ Ok w → (t ≡ true) × (v ≡ w)
if-Ok true v w e h = (refl, cc)
if-Ok false v w e h = absurd cc

if-Err : {A : Type 0} (t : Bool) (d e : TextFault) (w : A) → (if t then Err d else Err e) ≡ Ok w → ⊥
if-Err true d e w h = cc
if-Err false d e w h = cc

pub goes_on-true : (b : ℕ) → 128 ≤ b → b < 192 → goes_on b ≡ true
goes_on-true b h k = grind (arith, nat_tests)

goes_on-is : (b : ℕ) → goes_on b ≡ true → (128 ≤ b) × (b < 192)
goes_on-is b h = grind (arith, nat_tests)

and-true : (s t : Bool) → (s && t) ≡ true → (s ≡ true) × (t ≡ true)
and-true true t h = (refl, h)
and-true false t h = absurd cc

-- the forms of two bytes
front_of_two-unit : (at u : ℕ) (rest : List ℕ) → (u ≡ 0) ⊎ (128 ≤ u) → u < 2048 → front_of_two at (192 + u / 64) ((128 + u % 64) ∷ rest) ≡ Ok (Some (u, 2))
unfolding front_of_two
front_of_two-unit at u rest h k =
    let value : (192 + u / 64 - 192) * 64 + (128 + u % 64 - 128) ≡ u = omega arith in
    let on : goes_on (128 + u % 64) ≡ true = goes_on-true (128 + u % 64) (omega arith) (omega arith) in
    let test : (u == 0 || nat_le 128 u) ≡ true = grind (arith, nat_tests) in
    simp (value, on, test)

-- these bytes begin with the form of u, which takes n of them
pub record IsForm (bytes : List ℕ) (u n : ℕ) : Type 0 where
  pub size : n ≡ length (unit_form u)
  pub form : bytes ≡ unit_form u ++ drop n bytes
  pub small : u < 65536

form_from : (bytes part rest : List ℕ) (u n : ℕ) → unit_form u ≡ part → length part ≡ n → bytes ≡ part ++ rest → drop n bytes ≡ rest → u < 65536 → IsForm bytes u n
form_from bytes part rest u n e w b d h = record {
  size = sym w ∙ ap length (sym e);
  form = b ∙ ap (λ p. p ++ rest) (sym e) ∙ ap (λ r. unit_form u ++ r) (sym d);
  small = h;
}

pub two_bytes_are : (a b u : ℕ) → 192 ≤ a → 128 ≤ b → b < 192 → u ≡ (a - 192) * 64 + (b - 128) → two_bytes u ≡ a ∷ b ∷ []
two_bytes_are a b u h k l e =
    let first : 192 + u / 64 ≡ a = omega arith in
    let second : 128 + u % 64 ≡ b = omega arith in
    cc

pub three_bytes_are : (a b c u : ℕ) → 224 ≤ a → 128 ≤ b → b < 192 → 128 ≤ c → c < 192 → u ≡ (a - 224) * 4096 + (b - 128) * 64 + (c - 128) → three_bytes u ≡ a ∷ b ∷ c ∷ []
three_bytes_are a b c u h k l m n e =
    let first : 224 + u / 4096 ≡ a = omega arith in
    let second : 128 + u / 64 % 64 ≡ b = omega arith in
    let third : 128 + u % 64 ≡ c = omega arith in
    cc

-- what is found in front, where it isn't the zero byte
unfoldable pub Found : List ℕ → Front → Type 0
Found bytes front = (u : ℕ) × (n : ℕ) × (front ≡ Some (u, n)) × IsForm bytes u n

found_two : (a b : ℕ) (bs : List ℕ) (u : ℕ) → 192 ≤ a → a < 224 → 128 ≤ b → b < 192 → u ≡ (a - 192) * 64 + (b - 128) → (u ≡ 0) ⊎ (128 ≤ u) → IsForm (a ∷ b ∷ bs) u 2
found_two a b bs u h k l m e t =
    form_from (a ∷ b ∷ bs) (a ∷ b ∷ []) bs u 2 (unit_form-two u t (omega arith) ∙ two_bytes_are a b u h l m e) refl refl refl (omega arith)

front_of_two-sound : (at a : ℕ) (bs : List ℕ) (f : Front) → 192 ≤ a → a < 224 → front_of_two at a bs ≡ Ok f → Found (a ∷ bs) f
unfolding front_of_two Found
front_of_two-sound at a [] f h k e = absurd (if-Err (a == 193) (BadForm at) CutOff f e)
front_of_two-sound at a (b ∷ bs) f h k e =
    let u = (a - 192) * 64 + (b - 128) in
    let passed = if-Ok (goes_on b && (u == 0 || nat_le 128 u)) (Some (u, 2)) f (BadForm at) e in
    let parts = and-true (goes_on b) (u == 0 || nat_le 128 u) passed.0 in
    let on = goes_on-is b parts.0 in
    (u, 2, sym passed.1, found_two a b bs u h k on.0 on.1 refl (nought_or_large u parts.1))
  where
    nought_or_large : (u : ℕ) → (u == 0 || nat_le 128 u) ≡ true → (u ≡ 0) ⊎ (128 ≤ u)
    nought_or_large u h = elim (cases_eq u 0) [ inl e ↦ inl e | inr n ↦ inr (grind (arith, nat_tests)) ]

-- the forms of three bytes
pub begins_three-is : (a b : ℕ) → begins_three a b ≡ true → (128 ≤ b) × (b < 192) × (32 ≤ (a - 224) * 64 + (b - 128))
begins_three-is a b h =
    let parts = and-true (goes_on b) (nat_le 32 ((a - 224) * 64 + (b - 128))) h in
    let on = goes_on-is b parts.0 in
    (on.0, on.1, grind (arith, nat_tests))

front_of_three-unit : (at u : ℕ) (rest : List ℕ) → 2048 ≤ u → u < 65536 → front_of_three at (224 + u / 4096) ((128 + u / 64 % 64) ∷ (128 + u % 64) ∷ rest) ≡ Ok (Some (u, 3))
unfolding front_of_three
front_of_three-unit at u rest h k =
    let value : (224 + u / 4096 - 224) * 4096 + (128 + u / 64 % 64 - 128) * 64 + (128 + u % 64 - 128) ≡ u = omega arith in
    let second : goes_on (128 + u / 64 % 64) ≡ true = goes_on-true (128 + u / 64 % 64) (omega arith) (omega arith) in
    let third : goes_on (128 + u % 64) ≡ true = goes_on-true (128 + u % 64) (omega arith) (omega arith) in
    let enough : 32 ≤ (224 + u / 4096 - 224) * 64 + (128 + u / 64 % 64 - 128) = omega arith in
    let test : nat_le 32 ((224 + u / 4096 - 224) * 64 + (128 + u / 64 % 64 - 128)) ≡ true = grind (arith, nat_tests) in
    simp (value, second, third, test)

found_three : (a b c : ℕ) (cs : List ℕ) (u : ℕ) → 224 ≤ a → a < 240 → 128 ≤ b → b < 192 → 128 ≤ c → c < 192 → 32 ≤ (a - 224) * 64 + (b - 128) →
    u ≡ (a - 224) * 4096 + (b - 128) * 64 + (c - 128) → IsForm (a ∷ b ∷ c ∷ cs) u 3
found_three a b c cs u h k l m n o t e =
    form_from (a ∷ b ∷ c ∷ cs) (a ∷ b ∷ c ∷ []) cs u 3 (unit_form-three u (omega arith) ∙ three_bytes_are a b c u h l m n o e) refl refl refl (omega arith)

front_of_three-sound : (at a : ℕ) (bs : List ℕ) (f : Front) → 224 ≤ a → a < 240 → front_of_three at a bs ≡ Ok f → Found (a ∷ bs) f
unfolding front_of_three Found
front_of_three-sound at a [] f h k e = absurd cc
front_of_three-sound at a (b ∷ []) f h k e = absurd (if-Err (begins_three a b) CutOff (BadForm at) f e)
front_of_three-sound at a (b ∷ c ∷ cs) f h k e =
    let u = (a - 224) * 4096 + (b - 128) * 64 + (c - 128) in
    let passed = if-Ok (begins_three a b && goes_on c) (Some (u, 3)) f (BadForm at) e in
    let parts = and-true (begins_three a b) (goes_on c) passed.0 in
    let begins = begins_three-is a b parts.0 in
    let on = goes_on-is c parts.1 in
    (u, 3, sym passed.1, found_three a b c cs u h k begins.0 begins.1 on.0 on.1 begins.2 refl)

found_one : (a : ℕ) (bs : List ℕ) → 0 < a → a < 128 → IsForm (a ∷ bs) a 1
found_one a bs h k = form_from (a ∷ bs) (a ∷ []) bs a 1 (unit_form-one a h k) refl refl refl (omega arith)

-- what stands in front is the zero byte, or a form
pub front_of-sound : (at : ℕ) (bytes : List ℕ) (f : Front) → front_of at bytes ≡ Ok f → ((f ≡ None) × (bytes ≡ 0 ∷ drop 1 bytes)) ⊎ Found bytes f
unfolding Found
front_of-sound at [] f e = absurd (cc (front_of-nil at))
front_of-sound at (a ∷ bs) f e =
    elim (cases_lt a 128) [
      | inl low ↦ elim (cases_eq a 0) [
        | inl nought ↦ let at_end = front_of-zero at a bs nought in inl (cc, ap (λ x. x ∷ bs) nought)
        | inr some ↦ let one = front_of-one at a bs (omega arith) low in inr (a, 1, cc, found_one a bs (omega arith) low)
      ]
      | inr above ↦ elim (cases_lt a 192) [
        | inl stray ↦ absurd (cc (front_of-stray at a bs above stray))
        | inr above192 ↦ elim (cases_lt a 224) [
          | inl two ↦ inr (front_of_two-sound at a bs f above192 two (sym (front_of-two at a bs above192 two) ∙ e))
          | inr above224 ↦ elim (cases_lt a 240) [
            | inl three ↦ inr (front_of_three-sound at a bs f above224 three (sym (front_of-three at a bs above224 three) ∙ e))
            | inr high ↦ absurd (cc (front_of-high at a bs high))
          ]
        ]
      ]
    ]

-- the form of a unit in front is found
pub front_of-unit : (at u : ℕ) (rest : List ℕ) → u < 65536 → front_of at (unit_form u ++ rest) ≡ Ok (Some (u, length (unit_form u)))
front_of-unit at u rest h =
    let F : List ℕ → Type 0 = λ part. front_of at (part ++ rest) ≡ Ok (Some (u, length part)) in
    elim (cases_lt u 2048) [
      | inl low ↦ elim (cases_lt u 128) [
        | inl small ↦ elim (cases_eq u 0) [
          | inl nought ↦ subst F (sym (unit_form-two u (inl nought) low)) (front_of-two at (192 + u / 64) ((128 + u % 64) ∷ rest) (omega arith) (omega arith) ∙ front_of_two-unit at u rest (inl nought) low)
          | inr some ↦ subst F (sym (unit_form-one u (omega arith) small)) (front_of-one at u rest (omega arith) small)
        ]
        | inr large ↦ subst F (sym (unit_form-two u (inr large) low)) (front_of-two at (192 + u / 64) ((128 + u % 64) ∷ rest) (omega arith) (omega arith) ∙ front_of_two-unit at u rest (inr large) low)
      ]
      | inr high ↦ subst F (sym (unit_form-three u high)) (front_of-three at (224 + u / 4096) ((128 + u / 64 % 64) ∷ (128 + u % 64) ∷ rest) (omega arith) (omega arith) ∙ front_of_three-unit at u rest high h)
    ]

pub front_of-end : (at : ℕ) (rest : List ℕ) → front_of at (0 ∷ rest) ≡ Ok None
front_of-end at rest = front_of-zero at 0 rest refl

-- what isn't read fails as cut off or as no form
pub if-fault : {A : Type 0} (t : Bool) (v : A) (d e : TextFault) → (if t then Ok v else Err d) ≡ Err e → e ≡ d
if-fault true v d e h = absurd cc
if-fault false v d e h = cc

either-fault : {A : Type 0} (t : Bool) (d e f : TextFault) → (let r : Result A TextFault = if t then Err d else Err e in r) ≡ Err f → (f ≡ d) ⊎ (f ≡ e)
either-fault true d e f h = inl cc
either-fault false d e f h = inr cc

abbrev FrontFault : ℕ → TextFault → Type 0
FrontFault at fault = (fault ≡ CutOff) ⊎ (fault ≡ BadForm at)

swapped : (at : ℕ) (fault : TextFault) → (fault ≡ BadForm at) ⊎ (fault ≡ CutOff) → FrontFault at fault
swapped at fault (inl h) = inr h
swapped at fault (inr h) = inl h

two-fault : (at a : ℕ) (bs : List ℕ) (fault : TextFault) → front_of_two at a bs ≡ Err fault → FrontFault at fault
unfolding front_of_two
two-fault at a [] fault h = swapped at fault (either-fault (a == 193) (BadForm at) CutOff fault h)
two-fault at a (b ∷ bs) fault h =
    inr (if-fault (goes_on b && ((a - 192) * 64 + (b - 128) == 0 || nat_le 128 ((a - 192) * 64 + (b - 128)))) (Some ((a - 192) * 64 + (b - 128), 2)) (BadForm at) fault h)

three-fault : (at a : ℕ) (bs : List ℕ) (fault : TextFault) → front_of_three at a bs ≡ Err fault → FrontFault at fault
unfolding front_of_three
three-fault at a [] fault h = inl cc
three-fault at a (b ∷ []) fault h = either-fault (begins_three a b) CutOff (BadForm at) fault h
three-fault at a (b ∷ c ∷ cs) fault h =
    inr (if-fault (begins_three a b && goes_on c) (Some ((a - 224) * 4096 + (b - 128) * 64 + (c - 128), 3)) (BadForm at) fault h)

pub front-fault : (at : ℕ) (bytes : List ℕ) (fault : TextFault) → front_of at bytes ≡ Err fault → (fault ≡ CutOff) ⊎ (fault ≡ BadForm at)
front-fault at [] fault e = let cut = front_of-nil at in inl cc
front-fault at (a ∷ bs) fault e =
    elim (cases_lt a 128) [
      | inl low ↦ elim (cases_eq a 0) [
        | inl nought ↦ absurd (cc (front_of-zero at a bs nought))
        | inr some ↦ absurd (cc (front_of-one at a bs (omega arith) low))
      ]
      | inr above ↦ elim (cases_lt a 192) [
        | inl stray ↦ let bad = front_of-stray at a bs above stray in inr cc
        | inr above192 ↦ elim (cases_lt a 224) [
          | inl two ↦ two-fault at a bs fault (sym (front_of-two at a bs above192 two) ∙ e)
          | inr above224 ↦ elim (cases_lt a 240) [
            | inl three ↦ three-fault at a bs fault (sym (front_of-three at a bs above224 three) ∙ e)
            | inr high ↦ let bad = front_of-high at a bs high in inr cc
          ]
        ]
      ]
    ]
