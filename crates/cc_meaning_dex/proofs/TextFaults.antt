-- Each fault of a text, by the forms that stand before it.
use Rattle.std.proofs.Common.{◌≡◌, ◌≢◌, ℕ, zero, suc, ◌+◌, ◌<◌, cond, List, [], ◌∷◌, ◌++◌, length, take, drop, Ok, Err, refl, sym, ap, ◌∙◌, subst, inl, inr, arith}
use Rattle.std.specs.Prelude.{◌==◌}
use Rattle.std.proofs.lemmas.Bool.{cases_eq}
use Rattle.std.proofs.lemmas.Bool.Decides.{nat_tests}
use Rattle.std.proofs.lemmas.List.{append_assoc, length-append, take_at, drop_at, drop-drop, take-append-drop}
use Rattle.std.proofs.lemmas.List.Elements.{All-nil, All-cons, All-head, All-tail}
use Rattle.cc_meaning.specs.declared.fault.TextFault.{TextFault}
use Rattle.cc_meaning.specs.declared.fault.TextFault.TheVariants.{CutOff, BadForm, BadCount}
use Rattle.cc_meaning_dex.specs.Mutf8.{SpellsMutf8, FormsStand, IsCut, IsNoForm, unit_form, mutf8_bytes, front_of, behind_unit, text_within, text_of, counted, mutf8_at}
use Rattle.cc_meaning_dex.specs.TextLaws.{TextFaults}
use Rattle.cc_meaning_dex.proofs.Forms.{front-fault, front_of-unit}
use Rattle.cc_meaning_dex.proofs.FormFaults.{front_is_cut, cut_is_front, bad_is_none, none_is_bad}
use Rattle.cc_meaning_dex.proofs.TextLaws as laws

-- a fault behind the forms of some units
record FaultAt (at : ℕ) (bytes : List ℕ) (fault : TextFault) : Type 0 where
  units : List ℕ
  place : ℕ
  rest : List ℕ
  small : laws.Small units
  form : bytes ≡ mutf8_bytes units ++ rest
  end : place ≡ at + length (mutf8_bytes units)
  front : front_of place rest ≡ Err fault

within-fault : (steps at : ℕ) (bytes : List ℕ) (fault : TextFault) → length bytes < steps → text_within steps at bytes ≡ Err fault → FaultAt at bytes fault
within-fault zero at bytes fault l h = absurd (omega arith)
within-fault (suc steps) at bytes fault l h =
    elim (laws.front_cases at bytes) [
      | laws.fails other e ↦
          let read = laws.within-Err steps at bytes other e in
          let front : front_of at bytes ≡ Err fault = cc in
          record {
            units = [];
            place = at;
            rest = bytes;
            small = All-nil (λ u. u < 65536);
            form = ap (λ x. x ++ bytes) (sym laws.mutf8_bytes-nil);
            end = omega (arith, ap length laws.mutf8_bytes-nil);
            front = front;
          }
      | laws.ends e b ↦ absurd (cc (laws.within-None steps at bytes e))
      | laws.forms u n e f ↦
          let shorter : length (drop n bytes) < steps =
          omega (arith, laws.unit_form-some u, f.size, ap length f.form, length-append (unit_form u) (drop n bytes)) in
          let t = within-fault steps (at + n) (drop n bytes) fault shorter
          (laws.behind_unit-Err u (text_within steps (at + n) (drop n bytes)) fault (sym (laws.within-Some steps at bytes u n e) ∙ h)) in
          record {
            units = u ∷ t.units;
            place = t.place;
            rest = t.rest;
            small = All-cons (λ x. x < 65536) u t.units f.small t.small;
            form = f.form ∙ ap (λ x. unit_form u ++ x) t.form ∙ sym (append_assoc (unit_form u) (mutf8_bytes t.units) t.rest) ∙ ap (λ x. x ++ t.rest) (sym (laws.mutf8_bytes-cons u t.units));
            end = omega (arith, t.end, f.size, ap length (laws.mutf8_bytes-cons u t.units), length-append (unit_form u) (mutf8_bytes t.units));
            front = t.front;
          }
    ]

within-fails : (steps at : ℕ) (us rest : List ℕ) (fault : TextFault) → length us < steps → laws.Small us → front_of (at + length (mutf8_bytes us)) rest ≡ Err fault →
    text_within steps at (mutf8_bytes us ++ rest) ≡ Err fault
within-fails zero at us rest fault l s h = absurd (omega arith)
within-fails (suc steps) at [] rest fault l s h =
    let same : at + length (mutf8_bytes []) ≡ at = omega (arith, ap length laws.mutf8_bytes-nil) in
    ap (λ x. text_within (suc steps) at (x ++ rest)) laws.mutf8_bytes-nil ∙ laws.within-Err steps at rest fault (ap (λ p. front_of p rest) (sym same) ∙ h)
within-fails (suc steps) at (u ∷ us) rest fault l s h =
    let tail = mutf8_bytes us ++ rest in
    let n = length (unit_form u) in
    let whole : mutf8_bytes (u ∷ us) ++ rest ≡ unit_form u ++ tail = ap (λ x. x ++ rest) (laws.mutf8_bytes-cons u us) ∙ append_assoc (unit_form u) (mutf8_bytes us) rest in
    let later : drop n (unit_form u ++ tail) ≡ tail = drop_at (unit_form u) tail n refl in
    let place : at + n + length (mutf8_bytes us) ≡ at + length (mutf8_bytes (u ∷ us)) =
    omega (arith, ap length (laws.mutf8_bytes-cons u us), length-append (unit_form u) (mutf8_bytes us)) in
    ap (text_within (suc steps) at) whole
    ∙ laws.within-Some steps at (unit_form u ++ tail) u n (front_of-unit at u tail (All-head (λ x. x < 65536) u us s))
    ∙ ap (λ b. behind_unit u (text_within steps (at + n) b)) later
    ∙ ap (behind_unit u) (within-fails steps (at + n) us rest fault (omega arith) (All-tail (λ x. x < 65536) u us s) (ap (λ p. front_of p rest) place ∙ h))

-- the same of the text at a place
record FaultIn (bytes : List ℕ) (at : ℕ) (fault : TextFault) : Type 0 where
  units : List ℕ
  place : ℕ
  stand : FormsStand bytes at units place
  front : front_of place (drop place bytes) ≡ Err fault

fault_in : (bytes : List ℕ) (at : ℕ) (fault : TextFault) → text_of at (drop at bytes) ≡ Err fault → FaultIn bytes at fault
unfolding text_of
fault_in bytes at fault h =
    let d = drop at bytes in
    let f = within-fault (suc (length d)) at d fault (omega arith) h in
    let part = mutf8_bytes f.units in
    let rest : drop f.place bytes ≡ f.rest =
    ap (λ p. drop p bytes) f.end ∙ sym (drop-drop (length part) at bytes) ∙ ap (drop (length part)) f.form ∙ drop_at part f.rest (length part) refl in
    record {
      units = f.units;
      place = f.place;
      stand = record { small = f.small; stands = ap (take (length part)) f.form ∙ take_at part f.rest (length part) refl; end = f.end };
      front = ap (front_of f.place) rest ∙ f.front;
    }

fails_in : (bytes : List ℕ) (at : ℕ) (fault : TextFault) (units : List ℕ) (place : ℕ) → FormsStand bytes at units place → front_of place (drop place bytes) ≡ Err fault →
    text_of at (drop at bytes) ≡ Err fault
unfolding text_of
fails_in bytes at fault units place s h =
    let d = drop at bytes in
    let part = mutf8_bytes units in
    let rest = drop (length part) d in
    let whole : d ≡ part ++ rest = sym (take-append-drop (length part) d) ∙ ap (λ p. p ++ rest) s.stands in
    let same : drop place bytes ≡ rest = ap (λ p. drop p bytes) s.end ∙ sym (drop-drop (length part) at bytes) in
    let room : length units < suc (length d) = omega (arith, laws.length-units units, ap length whole, length-append part rest) in
    ap (text_within (suc (length d)) at) whole
    ∙ within-fails (suc (length d)) at units rest fault room s.small (ap (λ p. front_of p rest) (sym s.end) ∙ ap (front_of place) (sym same) ∙ h)

-- a faulty answer is the fault of the text, or a wrong count
data Fault_is (count : ℕ) (r : laws.Text) (fault : TextFault) : Type 0 where
  of_text : r ≡ Err fault → Fault_is count r fault
  of_count : (units : List ℕ) (next : ℕ) → r ≡ Ok (units, next) → length units ≢ count → fault ≡ BadCount → Fault_is count r fault

counted-fault : (count : ℕ) (r : laws.Text) (fault : TextFault) → counted count r ≡ Err fault → Fault_is count r fault
unfolding counted
counted-fault count (Err other) fault h = of_text cc
counted-fault count (Ok text) fault h = elim (cases_eq (length text.0) count) [
  | inl same ↦ let e : cond (length text.0 == count) (Ok text) (Err BadCount) ≡ Ok text = grind (arith, nat_tests) in absurd cc
  | inr other ↦ let e : cond (length text.0 == count) (Ok text) (Err BadCount) ≡ Err BadCount = grind (arith, nat_tests) in of_count text.0 text.1 refl other cc
]

mutf8_at-fault : (bytes : List ℕ) (at count : ℕ) (fault : TextFault) → mutf8_at bytes at count ≡ Err fault → Fault_is count (text_of at (drop at bytes)) fault
unfolding mutf8_at
mutf8_at-fault bytes at count fault h = counted-fault count (text_of at (drop at bytes)) fault h

mutf8_at-fails : (bytes : List ℕ) (at count : ℕ) (fault : TextFault) → text_of at (drop at bytes) ≡ Err fault → mutf8_at bytes at count ≡ Err fault
unfolding mutf8_at counted
mutf8_at-fails bytes at count fault h = ap (counted count) h

mutf8_at-other : (bytes : List ℕ) (at count : ℕ) (units : List ℕ) (next : ℕ) → text_of at (drop at bytes) ≡ Ok (units, next) → length units ≢ count → mutf8_at bytes at count ≡ Err BadCount
unfolding mutf8_at counted
mutf8_at-other bytes at count units next h n = ap (counted count) h ∙ grind (arith, nat_tests)

mutf8_at-same : (bytes : List ℕ) (at : ℕ) (units : List ℕ) (next : ℕ) → text_of at (drop at bytes) ≡ Ok (units, next) → mutf8_at bytes at (length units) ≡ Ok (units, next)
unfolding mutf8_at counted
mutf8_at-same bytes at units next h = ap (counted (length units)) h ∙ grind (arith, nat_tests)

cut_of : (bytes : List ℕ) (at count : ℕ) → mutf8_at bytes at count ≡ Err CutOff → (units : List ℕ) × (place : ℕ) × FormsStand bytes at units place × IsCut (drop place bytes)
cut_of bytes at count h = elim (mutf8_at-fault bytes at count CutOff h) [
  | of_text e ↦ let f = fault_in bytes at CutOff e in (f.units, f.place, f.stand, front_is_cut f.place (drop f.place bytes) f.front)
  | of_count units next e n wrong ↦ absurd cc
]

bad_of : (bytes : List ℕ) (at count place : ℕ) → mutf8_at bytes at count ≡ Err (BadForm place) → (units : List ℕ) × FormsStand bytes at units place × IsNoForm (drop place bytes)
bad_of bytes at count place h = elim (mutf8_at-fault bytes at count (BadForm place) h) [
  | of_text e ↦
      let f = fault_in bytes at (BadForm place) e in
      elim (front-fault f.place (drop f.place bytes) (BadForm place) f.front) [
        | inl wrong ↦ absurd cc
        | inr same ↦
            let here : f.place ≡ place = cc in
            let P : ℕ → Type 0 = λ p. FormsStand bytes at f.units p in
            let bad : front_of place (drop place bytes) ≡ Err (BadForm place) = ap (λ p. front_of p (drop p bytes)) (sym here) ∙ f.front in
            (f.units, subst P here f.stand, bad_is_none place (drop place bytes) bad)
      ]
  | of_count units next e n wrong ↦ absurd cc
]

count_of : (bytes : List ℕ) (at count : ℕ) → mutf8_at bytes at count ≡ Err BadCount → (units : List ℕ) × (next : ℕ) × SpellsMutf8 bytes at units next × (length units ≢ count)
count_of bytes at count h = elim (mutf8_at-fault bytes at count BadCount h) [
  | of_text e ↦
      let f = fault_in bytes at BadCount e in
      elim (front-fault f.place (drop f.place bytes) BadCount f.front) [ inl wrong ↦ absurd cc | inr wrong ↦ absurd cc ]
  | of_count units next e n wrong ↦ (units, next, (laws.mutf8_agrees bytes at units next).0 (mutf8_at-same bytes at units next e), n)
]

text_read : (bytes : List ℕ) (at : ℕ) (units : List ℕ) (next : ℕ) → mutf8_at bytes at (length units) ≡ Ok (units, next) → text_of at (drop at bytes) ≡ Ok (units, next)
unfolding mutf8_at
text_read bytes at units next h = laws.counted-Ok (length units) (text_of at (drop at bytes)) units next h

pub text_faults : TextFaults
text_faults = record {
  cut = λ bytes at count. (
    cut_of bytes at count,
    λ f. mutf8_at-fails bytes at count CutOff (fails_in bytes at CutOff f.0 f.1 f.2 (cut_is_front f.1 (drop f.1 bytes) f.3)),
  );
  bad = λ bytes at count place. (
    bad_of bytes at count place,
    λ f. mutf8_at-fails bytes at count (BadForm place) (fails_in bytes at (BadForm place) f.0 place f.1 (none_is_bad place (drop place bytes) f.2)),
  );
  count = λ bytes at count. (
    count_of bytes at count,
    λ f. mutf8_at-other bytes at count f.0 f.1 (text_read bytes at f.0 f.1 ((laws.mutf8_agrees bytes at f.0 f.1).1 f.2)) f.3,
  );
}
