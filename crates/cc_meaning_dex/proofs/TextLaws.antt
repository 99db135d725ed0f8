-- A text in MUTF-8 is read exactly where it is spelled.
use Rattle.std.proofs.Common.{◌≡◌, ℕ, zero, suc, ◌+◌, ◌<◌, ◌≤◌, ◌⊎◌, cond, List, [], ◌∷◌, ◌++◌, length, take, drop, Some, None, Result, Ok, Err, refl, sym, ap, ◌∙◌, subst, inl, inr, arith}
use Rattle.std.specs.Prelude.{All, ◌==◌}
use Rattle.std.proofs.lemmas.Bool.{cases_lt, cases_eq}
use Rattle.std.proofs.lemmas.Bool.Decides.{nat_tests}
use Rattle.std.proofs.lemmas.List.{append_assoc, length-append, length-drop, take_at, drop_at, take-append-drop}
use Rattle.std.proofs.lemmas.List.Elements.{All-nil, All-cons, All-head, All-tail}
use Rattle.cc_meaning.specs.declared.fault.TextFault.{TextFault}
use Rattle.cc_meaning.specs.declared.fault.TextFault.TheVariants.{CutOff, BadCount, Memory}
use Rattle.cc_meaning_dex.specs.Mutf8.{SpellsMutf8, Front, unit_form, mutf8_bytes, front_of, behind_unit, text_within, text_of, counted, mutf8_at}
use Rattle.cc_meaning_dex.specs.TextLaws.{Mutf8Agrees, Mutf8Answers, TextSteps}
use Rattle.cc_meaning_dex.proofs.Forms.{IsForm, Found, front_of-sound, front_of-unit, front_of-end, front-fault}

abbrev pub Small : List ℕ → Type 0
Small units = All (λ u. u < 65536) units

abbrev pub Text : Type 0
Text = Result (List ℕ × ℕ) TextFault

-- one step, by what stands in front
pub within-Err : (steps at : ℕ) (bytes : List ℕ) (fault : TextFault) → front_of at bytes ≡ Err fault → text_within (suc steps) at bytes ≡ Err fault
unfolding text_within
within-Err steps at bytes fault h = rw (h, text_within)

pub within-None : (steps at : ℕ) (bytes : List ℕ) → front_of at bytes ≡ Ok None → text_within (suc steps) at bytes ≡ Ok ([], at + 1)
unfolding text_within
within-None steps at bytes h = rw (h, text_within)

pub within-Some : (steps at : ℕ) (bytes : List ℕ) (u n : ℕ) → front_of at bytes ≡ Ok (Some (u, n)) →
    text_within (suc steps) at bytes ≡ behind_unit u (text_within steps (at + n) (drop n bytes))
unfolding text_within
within-Some steps at bytes u n h = rw (h, text_within)

within-zero : (at : ℕ) (bytes : List ℕ) → text_within zero at bytes ≡ Err CutOff
unfolding text_within
within-zero at bytes = refl

-- what stands in front: a fault, the zero byte, or a form
pub data Front_is (at : ℕ) (bytes : List ℕ) : Type 0 where
  fails : (fault : TextFault) → front_of at bytes ≡ Err fault → Front_is at bytes
  ends : front_of at bytes ≡ Ok None → bytes ≡ 0 ∷ drop 1 bytes → Front_is at bytes
  forms : (u n : ℕ) → front_of at bytes ≡ Ok (Some (u, n)) → IsForm bytes u n → Front_is at bytes

pub front_cases : (at : ℕ) (bytes : List ℕ) → Front_is at bytes
unfolding Found
front_cases at bytes = by_front (front_of at bytes) refl
  where
    by_sound : (f : Front) → front_of at bytes ≡ Ok f → ((f ≡ None) × (bytes ≡ 0 ∷ drop 1 bytes)) ⊎ Found bytes f → Front_is at bytes
    by_sound f e (inl h) = ends (e ∙ ap Ok h.0) h.1
    by_sound f e (inr h) = forms h.0 h.1 (e ∙ ap Ok h.2) h.3

    by_front : (r : Result Front TextFault) → front_of at bytes ≡ r → Front_is at bytes
    by_front (Err fault) e = fails fault e
    by_front (Ok f) e = by_sound f e (front_of-sound at bytes f e)

-- each form has a byte
pub unit_form-some : (u : ℕ) → 0 < length (unit_form u)
unfolding unit_form
unit_form-some u =
    elim (cases_eq u 0) [
      | inl nought ↦ grind (arith, nat_tests)
      | inr some ↦ elim (cases_lt u 128) [
        | inl low ↦ grind (arith, nat_tests)
        | inr high ↦ elim (cases_lt u 2048) [ inl two ↦ grind (arith, nat_tests) | inr three ↦ grind (arith, nat_tests) ]
      ]
    ]

pub mutf8_bytes-nil : mutf8_bytes [] ≡ []
unfolding mutf8_bytes
mutf8_bytes-nil = refl

pub mutf8_bytes-cons : (u : ℕ) (us : List ℕ) → mutf8_bytes (u ∷ us) ≡ unit_form u ++ mutf8_bytes us
unfolding mutf8_bytes
mutf8_bytes-cons u us = refl

pub length-units : (us : List ℕ) → length us ≤ length (mutf8_bytes us)
length-units [] = omega arith
length-units (u ∷ us) =
    omega (arith, length-units us, unit_form-some u, ap length (mutf8_bytes-cons u us), length-append (unit_form u) (mutf8_bytes us))

-- these bytes, which begin at `at`, begin with a text of these units
record TextIs (at : ℕ) (bytes : List ℕ) (us : List ℕ) (next : ℕ) : Type 0 where
  rest : List ℕ
  form : bytes ≡ mutf8_bytes us ++ 0 ∷ rest
  end : next ≡ at + length (mutf8_bytes us) + 1
  small : Small us

behind_unit-Ok : (u : ℕ) (r : Text) (us : List ℕ) (next : ℕ) → behind_unit u r ≡ Ok (us, next) → (vs : List ℕ) × (r ≡ Ok (vs, next)) × (us ≡ u ∷ vs)
behind_unit-Ok u (Ok text) us next h =
    let same : (u ∷ text.0, text.1) ≡ (us, next) = cc in
    (text.0, ap (λ n. Ok (text.0, n)) (ap (λ (p : List ℕ × ℕ). p.1) same), sym (ap (λ (p : List ℕ × ℕ). p.0) same))
behind_unit-Ok u (Err fault) us next h = absurd cc

text_empty : (at : ℕ) (bytes us : List ℕ) (next : ℕ) → bytes ≡ 0 ∷ drop 1 bytes → Ok ([], at + 1) ≡ (let r : Text = Ok (us, next) in r) → TextIs at bytes us next
text_empty at bytes us next b h =
    let same : ([], at + 1) ≡ (us, next) = cc in
    let none : us ≡ [] = sym (ap (λ (p : List ℕ × ℕ). p.0) same) in
    let place : next ≡ at + 1 = sym (ap (λ (p : List ℕ × ℕ). p.1) same) in
    let P : List ℕ → Type 0 = λ vs. TextIs at bytes vs next in
    subst P (sym none) (record {
      rest = drop 1 bytes;
      form = b ∙ ap (λ x. x ++ 0 ∷ drop 1 bytes) (sym mutf8_bytes-nil);
      end = omega (arith, place, ap length mutf8_bytes-nil);
      small = All-nil (λ u. u < 65536);
    })

text_behind : (at u n : ℕ) (bytes vs : List ℕ) (next : ℕ) → IsForm bytes u n → TextIs (at + n) (drop n bytes) vs next → TextIs at bytes (u ∷ vs) next
text_behind at u n bytes vs next f t = record {
  rest = t.rest;
  form = f.form ∙ ap (λ x. unit_form u ++ x) t.form ∙ sym (append_assoc (unit_form u) (mutf8_bytes vs) (0 ∷ t.rest)) ∙ ap (λ x. x ++ 0 ∷ t.rest) (sym (mutf8_bytes-cons u vs));
  end = omega (arith, t.end, f.size, ap length (mutf8_bytes-cons u vs), length-append (unit_form u) (mutf8_bytes vs));
  small = All-cons (λ x. x < 65536) u vs f.small t.small;
}

within-sound : (steps at : ℕ) (bytes us : List ℕ) (next : ℕ) → text_within steps at bytes ≡ Ok (us, next) → TextIs at bytes us next
within-sound zero at bytes us next h = absurd (cc (within-zero at bytes))
within-sound (suc steps) at bytes us next h =
    elim (front_cases at bytes) [
      | fails fault e ↦ absurd (cc (within-Err steps at bytes fault e))
      | ends e b ↦ text_empty at bytes us next b (sym (within-None steps at bytes e) ∙ h)
      | forms u n e f ↦
          let inner = behind_unit-Ok u (text_within steps (at + n) (drop n bytes)) us next (sym (within-Some steps at bytes u n e) ∙ h) in
          let P : List ℕ → Type 0 = λ vs. TextIs at bytes vs next in
          subst P (sym inner.2) (text_behind at u n bytes inner.0 next f (within-sound steps (at + n) (drop n bytes) inner.0 next inner.1))
    ]

within-complete : (steps at : ℕ) (us rest : List ℕ) → length us < steps → Small us → text_within steps at (mutf8_bytes us ++ 0 ∷ rest) ≡ Ok (us, at + length (mutf8_bytes us) + 1)
within-complete zero at us rest h s = absurd (omega arith)
within-complete (suc steps) at [] rest h s =
    let R : List ℕ → Type 0 = λ b. text_within (suc steps) at (b ++ 0 ∷ rest) ≡ Ok ([], at + length b + 1) in
    let place : at + 1 ≡ at + 0 + 1 = omega arith in
    subst R (sym mutf8_bytes-nil) (within-None steps at (0 ∷ rest) (front_of-end at rest) ∙ ap (λ p. Ok ([], p)) place)
within-complete (suc steps) at (u ∷ us) rest h s =
    let tail = mutf8_bytes us ++ 0 ∷ rest in
    let whole : (mutf8_bytes (u ∷ us)) ++ 0 ∷ rest ≡ unit_form u ++ tail =
    ap (λ x. x ++ 0 ∷ rest) (mutf8_bytes-cons u us) ∙ append_assoc (unit_form u) (mutf8_bytes us) (0 ∷ rest) in
    let n = length (unit_form u) in
    let later : drop n (unit_form u ++ tail) ≡ tail = drop_at (unit_form u) tail n refl in
    let place : at + n + length (mutf8_bytes us) + 1 ≡ at + length (mutf8_bytes (u ∷ us)) + 1 =
    omega (arith, ap length (mutf8_bytes-cons u us), length-append (unit_form u) (mutf8_bytes us)) in
    ap (text_within (suc steps) at) whole
    ∙ within-Some steps at (unit_form u ++ tail) u n (front_of-unit at u tail (All-head (λ x. x < 65536) u us s))
    ∙ ap (λ b. behind_unit u (text_within steps (at + n) b)) later
    ∙ ap (behind_unit u) (within-complete steps (at + n) us rest (omega arith) (All-tail (λ x. x < 65536) u us s))
    ∙ ap (λ p. Ok (u ∷ us, p)) place

-- the number of steps doesn't matter where there is one for each byte
steps_enough : (k j at : ℕ) (bytes : List ℕ) → length bytes < k → length bytes < j → text_within k at bytes ≡ text_within j at bytes
steps_enough zero j at bytes h i = absurd (omega arith)
steps_enough (suc k) zero at bytes h i = absurd (omega arith)
steps_enough (suc k) (suc j) at bytes h i =
    elim (front_cases at bytes) [
      | fails fault e ↦ within-Err k at bytes fault e ∙ sym (within-Err j at bytes fault e)
      | ends e b ↦ within-None k at bytes e ∙ sym (within-None j at bytes e)
      | forms u n e f ↦
          let some : 0 < n = omega (arith, unit_form-some u, f.size) in
          let shorter : length (drop n bytes) < length bytes =
          omega (arith, length-drop n bytes, ap length f.form, length-append (unit_form u) (drop n bytes), f.size) in
          within-Some k at bytes u n e
          ∙ ap (behind_unit u) (steps_enough k j (at + n) (drop n bytes) (omega arith) (omega arith))
          ∙ sym (within-Some j at bytes u n e)
    ]

-- what stands in front of a text, and what is behind it
pub text_of-Err : (at : ℕ) (bytes : List ℕ) (fault : TextFault) → front_of at bytes ≡ Err fault → text_of at bytes ≡ Err fault
unfolding text_of
text_of-Err at bytes fault h = within-Err (length bytes) at bytes fault h

pub text_of-None : (at : ℕ) (bytes : List ℕ) → front_of at bytes ≡ Ok None → text_of at bytes ≡ Ok ([], at + 1)
unfolding text_of
text_of-None at bytes h = within-None (length bytes) at bytes h

pub form_fits : (at : ℕ) (bytes : List ℕ) (u n : ℕ) → front_of at bytes ≡ Ok (Some (u, n)) → (0 < n) × (n ≤ length bytes) × (u < 65536)
form_fits at bytes u n e =
    elim (front_cases at bytes) [
      | fails fault h ↦ absurd cc
      | ends h b ↦ absurd cc
      | forms v m h f ↦
          let same : (u, n) ≡ (v, m) = cc in
          let unit : u ≡ v = ap (λ (p : ℕ × ℕ). p.0) same in
          let size : n ≡ m = ap (λ (p : ℕ × ℕ). p.1) same in
          let bounds = omega_bounds v m f in
          (omega (arith, bounds.0), omega (arith, bounds.1), omega (arith, f.small))
    ]
  where
    omega_bounds : (v m : ℕ) → IsForm bytes v m → (0 < m) × (m ≤ length bytes)
    omega_bounds v m f = (omega (arith, unit_form-some v, f.size), omega (arith, ap length f.form, length-append (unit_form v) (drop m bytes), f.size))

pub text_of-Some : (at : ℕ) (bytes : List ℕ) (u n : ℕ) → front_of at bytes ≡ Ok (Some (u, n)) → text_of at bytes ≡ behind_unit u (text_of (at + n) (drop n bytes))
unfolding text_of
text_of-Some at bytes u n h =
    let fits = form_fits at bytes u n h in
    let shorter : length (drop n bytes) < length bytes = omega (arith, length-drop n bytes, fits.0, fits.1) in
    within-Some (length bytes) at bytes u n h
    ∙ ap (behind_unit u) (steps_enough (length bytes) (suc (length (drop n bytes))) (at + n) (drop n bytes) shorter (omega arith))

pub counted-Ok : (count : ℕ) (r : Text) (units : List ℕ) (next : ℕ) → counted count r ≡ Ok (units, next) → r ≡ Ok (units, next)
unfolding counted
counted-Ok count (Err fault) units next h = absurd cc
counted-Ok count (Ok text) units next h = elim (cases_eq (length text.0) count) [
  | inl same ↦ let e : cond (length text.0 == count) (Ok text) (Err BadCount) ≡ Ok text = grind (arith, nat_tests) in cc
  | inr other ↦ let e : cond (length text.0 == count) (Ok text) (Err BadCount) ≡ Err BadCount = grind (arith, nat_tests) in absurd cc
]

counted-length : (count : ℕ) (r : Text) (units : List ℕ) (next : ℕ) → counted count r ≡ Ok (units, next) → length units ≡ count
unfolding counted
counted-length count (Err fault) units next h = absurd cc
counted-length count (Ok text) units next h = elim (cases_eq (length text.0) count) [
  | inl same ↦
      let e : cond (length text.0 == count) (Ok text) (Err BadCount) ≡ Ok text = grind (arith, nat_tests) in
      let text_is : text ≡ (units, next) = cc in
      sym (ap length (ap (λ (p : List ℕ × ℕ). p.0) text_is)) ∙ same
  | inr other ↦ let e : cond (length text.0 == count) (Ok text) (Err BadCount) ≡ Err BadCount = grind (arith, nat_tests) in absurd cc
]

counted-same : (units : List ℕ) (next : ℕ) → counted (length units) (Ok (units, next)) ≡ Ok (units, next)
unfolding counted
counted-same units next = grind (arith, nat_tests)

mutf8_spelled : (bytes : List ℕ) (at : ℕ) (units : List ℕ) (next : ℕ) → mutf8_at bytes at (length units) ≡ Ok (units, next) → SpellsMutf8 bytes at units next
unfolding mutf8_at text_of
mutf8_spelled bytes at units next h =
    let d = drop at bytes in
    let t = within-sound (suc (length d)) at d units next (counted-Ok (length units) (text_within (suc (length d)) at d) units next h) in
    let part = mutf8_bytes units ++ 0 ∷ [] in
    let whole : d ≡ part ++ t.rest = t.form ∙ sym (append_assoc (mutf8_bytes units) (0 ∷ []) t.rest) in
    record { small = t.small; stands = ap (take (length part)) whole ∙ take_at part t.rest (length part) refl; end = t.end }

mutf8_read : (bytes : List ℕ) (at : ℕ) (units : List ℕ) (next : ℕ) → SpellsMutf8 bytes at units next → mutf8_at bytes at (length units) ≡ Ok (units, next)
unfolding mutf8_at text_of
mutf8_read bytes at units next s =
    let d = drop at bytes in
    let part = mutf8_bytes units ++ 0 ∷ [] in
    let rest = drop (length part) d in
    let whole : d ≡ mutf8_bytes units ++ 0 ∷ rest =
    sym (take-append-drop (length part) d) ∙ ap (λ p. p ++ rest) s.stands ∙ append_assoc (mutf8_bytes units) (0 ∷ []) rest in
    let room : length units < suc (length d) = omega (arith, length-units units, ap length whole, length-append (mutf8_bytes units) (0 ∷ rest)) in
    let read : text_within (suc (length d)) at d ≡ Ok (units, at + length (mutf8_bytes units) + 1) =
    ap (text_within (suc (length d)) at) whole ∙ within-complete (suc (length d)) at units rest room s.small in
    ap (counted (length units)) (read ∙ ap (λ p. Ok (units, p)) (sym s.end)) ∙ counted-same units next

pub mutf8_agrees : Mutf8Agrees
mutf8_agrees bytes at units next = (mutf8_spelled bytes at units next, mutf8_read bytes at units next)

pub behind_unit-Err : (u : ℕ) (r : Text) (fault : TextFault) → behind_unit u r ≡ Err fault → r ≡ Err fault
behind_unit-Err u (Ok text) fault h = absurd cc
behind_unit-Err u (Err other) fault h = cc

-- no reading fails for want of memory
within-faults : (steps at : ℕ) (bytes : List ℕ) → text_within steps at bytes ≡ Err Memory → ⊥
within-faults zero at bytes h = absurd (cc (within-zero at bytes))
within-faults (suc steps) at bytes h =
    elim (front_cases at bytes) [
      | fails fault e ↦
          let same = within-Err steps at bytes fault e in
          let memory : fault ≡ Memory = cc in
          elim (front-fault at bytes fault e) [ inl cut ↦ absurd cc | inr bad ↦ absurd cc ]
      | ends e b ↦ absurd (cc (within-None steps at bytes e))
      | forms u n e f ↦ within-faults steps (at + n) (drop n bytes) (behind_unit-Err u (text_within steps (at + n) (drop n bytes)) Memory (sym (within-Some steps at bytes u n e) ∙ h))
    ]

text_of-faults : (at : ℕ) (bytes : List ℕ) → text_of at bytes ≡ Err Memory → ⊥
unfolding text_of
text_of-faults at bytes h = within-faults (suc (length bytes)) at bytes h

counted-faults : (count : ℕ) (r : Text) → counted count r ≡ Err Memory → r ≡ Err Memory
unfolding counted
counted-faults count (Err fault) h = cc
counted-faults count (Ok text) h = elim (cases_eq (length text.0) count) [
  | inl same ↦ let e : cond (length text.0 == count) (Ok text) (Err BadCount) ≡ Ok text = grind (arith, nat_tests) in absurd cc
  | inr other ↦ let e : cond (length text.0 == count) (Ok text) (Err BadCount) ≡ Err BadCount = grind (arith, nat_tests) in absurd cc
]

mutf8_at-faults : (bytes : List ℕ) (at count : ℕ) → mutf8_at bytes at count ≡ Err Memory → ⊥
unfolding mutf8_at
mutf8_at-faults bytes at count h = text_of-faults at (drop at bytes) (counted-faults count (text_of at (drop at bytes)) h)

pub mutf8_at-length : (bytes : List ℕ) (at count : ℕ) (units : List ℕ) (next : ℕ) → mutf8_at bytes at count ≡ Ok (units, next) → length units ≡ count
unfolding mutf8_at
mutf8_at-length bytes at count units next h = counted-length count (text_of at (drop at bytes)) units next h

pub mutf8_answers : Mutf8Answers
mutf8_answers = record { counted = mutf8_at-length; faults = mutf8_at-faults }

pub text_steps : TextSteps
text_steps = record {
  fails = text_of-Err;
  ends = text_of-None;
  stands = stands_some;
  goes_on = text_of-Some;
  faults = text_of-faults;
  some = λ at bytes u n h. (form_fits at bytes u n h).0;
  fits = λ at bytes u n h. (form_fits at bytes u n h).1;
}
  where
    stands_some : (at : ℕ) (bytes : List ℕ) → front_of at bytes ≡ Ok None → 0 < length bytes
    stands_some at bytes h = elim (front_cases at bytes) [
      | fails fault e ↦ absurd cc
      | ends e b ↦ omega (arith, ap length b)
      | forms u n e f ↦ absurd cc
    ]
