-- How the lists that units spell go on.
use Rattle.std.proofs.Common.{◌≡◌, ℕ, zero, suc, ◌+◌, ◌-◌, ◌*◌, ◌/◌, ◌%◌, ◌<◌, ◌≤◌, List, [], ◌∷◌, ◌++◌, length, drop, get_or, ℤ, refl, sym, ap, ◌∙◌, arith, append_assoc}
use Rattle.std.proofs.lemmas.List.{drop_more, drop_all, append-nil, length-drop}
use Rattle.cc_meaning_insn.specs.Forms.{int_of, registers_from}
use Rattle.cc_meaning_insn.specs.Payloads.{ints_of, bytes_of}

registers_more : (count first : ℕ) → 0 < count → registers_from count first ≡ first ∷ registers_from (count - 1) ((first + 1) % 65536)
unfolding registers_from
registers_more zero first h = absurd (omega arith)
registers_more (suc count) first h = ap (λ n. first ∷ registers_from n ((first + 1) % 65536)) (omega arith)

registers_none : (count first : ℕ) → count ≡ 0 → registers_from count first ≡ []
unfolding registers_from
registers_none zero first h = refl
registers_none (suc count) first h = absurd (omega arith)

-- the registers so far, and those that are still to come
pub registers-step : (items all : List ℕ) (count counter next after : ℕ) → counter < count → after ≡ (next + 1) % 65536 →
    items ++ registers_from (count - counter) next ≡ all → (items ++ next ∷ []) ++ registers_from (count - (counter + 1)) after ≡ all
registers-step items all count counter next after h e l =
    append_assoc items (next ∷ []) (registers_from (count - (counter + 1)) after)
    ∙ ap (λ tail. items ++ tail) (ap (λ n. next ∷ registers_from n after) (omega arith) ∙ ap (λ a. next ∷ registers_from (count - counter - 1) a) e
    ∙ sym (registers_more (count - counter) next (omega arith)))
    ∙ l

pub registers-all : (items all : List ℕ) (count counter next : ℕ) → count ≤ counter →
    items ++ registers_from (count - counter) next ≡ all → items ≡ all
registers-all items all count counter next h l =
    sym (append-nil items) ∙ ap (λ tail. items ++ tail) (sym (registers_none (count - counter) next (omega arith))) ∙ l

ints_cons : (low high : ℕ) (rest : List ℕ) → ints_of (low ∷ high ∷ rest) ≡ int_of low high ∷ ints_of rest
unfolding ints_of
ints_cons low high rest = refl

ints_short : (units : List ℕ) → length units < 2 → ints_of units ≡ []
unfolding ints_of
ints_short [] h = refl
ints_short (low ∷ []) h = refl
ints_short (low ∷ high ∷ rest) h = absurd (omega arith)

pub ints-step : (items all : List ℤ) (units : List ℕ) (i : ℕ) → 2 * i + 1 < length units → items ++ ints_of (drop (2 * i) units) ≡ all →
    (items ++ int_of (get_or units (2 * i) 0) (get_or units (2 * i + 1) 0) ∷ []) ++ ints_of (drop (2 * (i + 1)) units) ≡ all
ints-step items all units i h l =
    let number = int_of (get_or units (2 * i) 0) (get_or units (2 * i + 1) 0) in
    let two : 2 * i + 1 + 1 ≡ 2 * (i + 1) = omega arith in
    append_assoc items (number ∷ []) (ints_of (drop (2 * (i + 1)) units))
    ∙ ap (λ tail. items ++ tail)
    (sym (ap ints_of (drop_more units (2 * i) 0 (omega arith) ∙ ap (λ tail. get_or units (2 * i) 0 ∷ tail) (drop_more units (2 * i + 1) 0 h))
    ∙ ints_cons (get_or units (2 * i) 0) (get_or units (2 * i + 1) 0) (drop (2 * i + 1 + 1) units)
    ∙ ap (λ n. number ∷ ints_of (drop n units)) two))
    ∙ l

pub ints-all : (items all : List ℤ) (units : List ℕ) (i : ℕ) → length units ≤ 2 * i + 1 → items ++ ints_of (drop (2 * i) units) ≡ all → items ≡ all
ints-all items all units i h l =
    sym (append-nil items) ∙ ap (λ tail. items ++ tail) (sym (ints_short (drop (2 * i) units) (omega (arith, length-drop (2 * i) units)))) ∙ l

bytes_cons : (unit : ℕ) (rest : List ℕ) → bytes_of (unit ∷ rest) ≡ unit % 256 ∷ unit / 256 ∷ bytes_of rest
unfolding bytes_of
bytes_cons unit rest = refl

bytes_none : bytes_of [] ≡ []
unfolding bytes_of
bytes_none = refl

pub bytes-step : (items all units : List ℕ) (i low high : ℕ) → i < length units → low ≡ get_or units i 0 % 256 → high ≡ get_or units i 0 / 256 →
    items ++ bytes_of (drop i units) ≡ all → ((items ++ low ∷ []) ++ high ∷ []) ++ bytes_of (drop (i + 1) units) ≡ all
bytes-step items all units i low high h first second l =
    append_assoc (items ++ low ∷ []) (high ∷ []) (bytes_of (drop (i + 1) units))
    ∙ append_assoc items (low ∷ []) (high ∷ bytes_of (drop (i + 1) units))
    ∙ ap (λ tail. items ++ tail)
    ((λ j. first j ∷ second j ∷ bytes_of (drop (i + 1) units))
    ∙ sym (ap bytes_of (drop_more units i 0 h) ∙ bytes_cons (get_or units i 0) (drop (i + 1) units)))
    ∙ l

pub bytes-all : (items all units : List ℕ) (i : ℕ) → length units ≤ i → items ++ bytes_of (drop i units) ≡ all → items ≡ all
bytes-all items all units i h l =
    sym (append-nil items) ∙ ap (λ tail. items ++ tail) (sym (ap bytes_of (drop_all i units h) ∙ bytes_none)) ∙ l
