-- How the readers of texts go on.
use Rattle.std.proofs.Common.{◌≡◌, ◌≢◌, ℕ, ◌+◌, ◌<◌, ◌≤◌, List, [], ◌∷◌, ◌++◌, length, drop, Some, None, Result, Ok, Err, Vec, Global, refl, sym, ap, ◌∙◌, arith}
use Rattle.std.specs.Prelude.{IfOk, IfErr}
use Rattle.std.proofs.lemmas.List.{append-nil, append_assoc, drop-drop, drop_all, length-drop, length_push}
use Rattle.std.proofs.lemmas.Bool.Decides.{nat_tests}
use Rattle.cc_text.proofs.Fronts.{front_none}
use Rattle.cc_meaning.specs.declared.fault.TextFault.{TextFault}
use Rattle.cc_meaning.specs.declared.fault.TextFault.TheVariants.{CutOff, BadCount, Memory}
use Rattle.cc_meaning_dex.specs.Mutf8.{SpellsMutf8, front_of, behind_unit, text_of, counted, mutf8_at}
use Rattle.cc_meaning_dex.specs.TextLaws.{TextSteps, Mutf8Agrees, Mutf8Answers}
use Rattle.cc_text.specs.Measured.{measured}

abbrev pub Read : Type 0
Read = Result (List ℕ × ℕ) TextFault

-- a text behind these units
abbrev pub behind : List ℕ → Read → Read
behind us (Ok text) = Ok (us ++ text.0, text.1)
behind us (Err fault) = Err fault

-- what is found of a text, where these units stand before `place`
pub record IsBehind (at : ℕ) (bytes units : List ℕ) (place : ℕ) : Type 0 where
  pub text : text_of at (drop at bytes) ≡ behind units (text_of place (drop place bytes))
  pub within : place ≤ length bytes
  pub short : at + length units ≤ place

behind-none : (r : Read) → behind [] r ≡ r
behind-none (Ok text) = refl
behind-none (Err fault) = refl

behind-more : (us : List ℕ) (u : ℕ) (r : Read) → behind us (behind_unit u r) ≡ behind (us ++ u ∷ []) r
behind-more us u (Ok text) = let e : us ++ (u ∷ text.0) ≡ us ++ u ∷ [] ++ text.0 = sym (append_assoc us (u ∷ []) text.0) in ap (λ vs. Ok (vs, text.1)) e
behind-more us u (Err fault) = refl

pub IsBehind-start : (at : ℕ) (bytes : List ℕ) → at ≤ length bytes → IsBehind at bytes [] at
IsBehind-start at bytes h = record { text = sym (behind-none (text_of at (drop at bytes))); within = h; short = omega arith }

pub IsBehind-more : TextSteps → (at : ℕ) (bytes units : List ℕ) (place u n : ℕ) → IsBehind at bytes units place → front_of place (drop place bytes) ≡ Ok (Some (u, n)) →
    IsBehind at bytes (units ++ u ∷ []) (place + n)
IsBehind-more steps at bytes units place u n b e = record {
  text = b.text ∙ ap (behind units) (steps.goes_on place (drop place bytes) u n e)
      ∙ behind-more units u (text_of (place + n) (drop n (drop place bytes)))
      ∙ ap (λ rest. behind (units ++ u ∷ []) (text_of (place + n) rest)) (drop-drop n place bytes);
  within = omega (arith, b.within, steps.fits place (drop place bytes) u n e, length-drop place bytes);
  short = omega (arith, b.short, steps.some place (drop place bytes) u n e, length_push units u);
}

pub IsBehind-end : TextSteps → (at : ℕ) (bytes units : List ℕ) (place : ℕ) → IsBehind at bytes units place → front_of place (drop place bytes) ≡ Ok None →
    text_of at (drop at bytes) ≡ Ok (units, place + 1)
IsBehind-end steps at bytes units place b e =
    b.text ∙ ap (behind units) (steps.ends place (drop place bytes) e) ∙ ap (λ us. Ok (us, place + 1)) (append-nil units)

pub IsBehind-fault : TextSteps → (at : ℕ) (bytes units : List ℕ) (place : ℕ) (fault : TextFault) → IsBehind at bytes units place → front_of place (drop place bytes) ≡ Err fault →
    text_of at (drop at bytes) ≡ Err fault
IsBehind-fault steps at bytes units place fault b e = b.text ∙ ap (behind units) (steps.fails place (drop place bytes) fault e)

-- so many units stand before `place`
abbrev pub IsMeasured : ℕ → List ℕ → ℕ → ℕ → Type 0
IsMeasured at bytes count place = (units : List ℕ) × (length units ≡ count) × IsBehind at bytes units place

pub IsMeasured-start : (at : ℕ) (bytes : List ℕ) → at ≤ length bytes → IsMeasured at bytes 0 at
IsMeasured-start at bytes h = ([], refl, IsBehind-start at bytes h)

pub IsMeasured-more : TextSteps → (at : ℕ) (bytes : List ℕ) (count place u n : ℕ) → IsMeasured at bytes count place → front_of place (drop place bytes) ≡ Ok (Some (u, n)) →
    IsMeasured at bytes (count + 1) (place + n)
IsMeasured-more steps at bytes count place u n m e =
    (m.0 ++ u ∷ [], length_push m.0 u ∙ ap (λ k. k + 1) m.1, IsBehind-more steps at bytes m.0 place u n m.2 e)

-- the text of that many units, by what stands there
pub mutf8_at-Err : (bytes : List ℕ) (at count : ℕ) (fault : TextFault) → text_of at (drop at bytes) ≡ Err fault → mutf8_at bytes at count ≡ Err fault
unfolding mutf8_at counted
mutf8_at-Err bytes at count fault h = ap (counted count) h

pub mutf8_at-other : (bytes : List ℕ) (at count : ℕ) (units : List ℕ) (next : ℕ) → text_of at (drop at bytes) ≡ Ok (units, next) → length units ≢ count → mutf8_at bytes at count ≡ Err BadCount
unfolding mutf8_at counted
mutf8_at-other bytes at count units next h n = ap (counted count) h ∙ grind (arith, nat_tests)

pub mutf8_at-same : (bytes : List ℕ) (at count : ℕ) (units : List ℕ) (next : ℕ) → text_of at (drop at bytes) ≡ Ok (units, next) → length units ≡ count → mutf8_at bytes at count ≡ Ok (units, next)
unfolding mutf8_at counted
mutf8_at-same bytes at count units next h n = ap (counted count) h ∙ grind (arith, nat_tests)

pub mutf8_at-past : TextSteps → (bytes : List ℕ) (at count : ℕ) → length bytes < at → mutf8_at bytes at count ≡ Err CutOff
mutf8_at-past steps bytes at count h =
    mutf8_at-Err bytes at count CutOff (ap (text_of at) (drop_all at bytes (omega arith)) ∙ steps.fails at [] CutOff (front_none at [] refl))

pub measured-Err : (r : Read) (fault : TextFault) → Err fault ≡ measured r → r ≡ Err fault
measured-Err (Ok text) fault h = absurd cc
measured-Err (Err other) fault h = cc

pub measured-Ok : (r : Read) (count next : ℕ) → Ok (count, next) ≡ measured r → (units : List ℕ) × (r ≡ Ok (units, next)) × (length units ≡ count)
measured-Ok (Ok text) count next h =
    let same : (count, next) ≡ (length text.0, text.1) = cc in
    (text.0, ap (λ p. Ok (text.0, p)) (sym (ap (λ (p : ℕ × ℕ). p.1) same)), sym (ap (λ (p : ℕ × ℕ). p.0) same))
measured-Ok (Err other) count next h = absurd cc

pub same_fault : {T : Type 0} (fault : TextFault) → (let r : Result T TextFault = Err fault in r) ≡ Err Memory → fault ≡ Memory
same_fault fault h = cc

-- what the laws say of an answer
module _ (bytes : List ℕ) (at count : ℕ) where
  pub mutf8_counted : Mutf8Answers → (r : Result (Vec ℕ Global × ℕ) TextFault) → IfOk r (λ read. mutf8_at bytes at count ≡ Ok (read.0.items, read.1)) → IfOk r (λ read. length read.0.items ≡ count)
  mutf8_counted law (Ok read) h = law.counted bytes at count read.0.items read.1 h
  mutf8_counted law (Err fault) h = tt

  pub mutf8_spelled : Mutf8Agrees → Mutf8Answers → (r : Result (Vec ℕ Global × ℕ) TextFault) → IfOk r (λ read. mutf8_at bytes at count ≡ Ok (read.0.items, read.1)) →
      IfOk r (λ read. SpellsMutf8 bytes at read.0.items read.1)
  mutf8_spelled agrees law (Ok read) h =
      (agrees bytes at read.0.items read.1).0 (ap (mutf8_at bytes at) (law.counted bytes at count read.0.items read.1 h) ∙ h)
  mutf8_spelled agrees law (Err fault) h = tt

  refused_by : Mutf8Agrees → (fault : TextFault) → mutf8_at bytes at count ≡ Err fault → (units : List ℕ) (next : ℕ) → length units ≡ count → ¬ SpellsMutf8 bytes at units next
  refused_by agrees fault h units next n s =
      let read : mutf8_at bytes at count ≡ Ok (units, next) = ap (mutf8_at bytes at) (sym n) ∙ (agrees bytes at units next).1 s in
      absurd cc

  pub mutf8_refused : Mutf8Agrees → (r : Result (Vec ℕ Global × ℕ) TextFault) → IfErr r (λ fault. fault ≢ Memory → mutf8_at bytes at count ≡ Err fault) →
      IfErr r (λ fault. fault ≢ Memory → (units : List ℕ) (next : ℕ) → length units ≡ count → ¬ SpellsMutf8 bytes at units next)
  mutf8_refused agrees (Ok read) h = tt
  mutf8_refused agrees (Err fault) h = λ n. refused_by agrees fault (h n)
