-- Payload by payload: what is decoded is what the units in front spell.
use Rattle.std.proofs.Common.{◌≡◌, ℕ, ◌+◌, ◌-◌, ◌*◌, ◌/◌, ◌%◌, ◌^◌, ◌<◌, ◌≤◌, inl, inr, true, false, List, [], ◌∷◌, ◌++◌, length, take, drop, Ok, Err, ℤ, FitsSigned, refl, sym, ap, ◌∙◌, append_assoc, arith}
use Rattle.std.specs.Prelude.{All, nat_lt, slice_range}
use Rattle.std.specs.List.{flat_map}
use Rattle.std.specs.Int.{w32}
use Rattle.std.proofs.lemmas.Bool.{cases_lt, cases_Bool}
use Rattle.std.proofs.lemmas.Bool.Decides.{nat_tests}
use Rattle.std.proofs.lemmas.List.{length-append, length-take-le, length-drop, take-append-drop, take_at, drop_at, drop-drop}
use Rattle.std.proofs.lemmas.List.Elements.{All-nil, All-cons, All-head, All-tail, All-take, All-drop}
use Rattle.cc_meaning.specs.declared.instruction.Insn.{Insn}
use Rattle.cc_meaning.specs.declared.instruction.Insn.TheVariants.{PackedPayload, SparsePayload, ArrayPayload}
use Rattle.cc_meaning.specs.declared.fault.InsnFault.TheVariants as fault
use Rattle.cc_meaning_insn.specs.Arithmetic.{modulo}
use Rattle.cc_meaning_insn.specs.Forms.{int_of, two_units_of}
use Rattle.cc_meaning_insn.specs.Payloads.{ints_of, bytes_of, packed_payload, sparse_payload, element_width, byte_count, array_size, is_width, array_payload}
use Rattle.cc_meaning_insn.specs.Decoded.{if_there}
use Rattle.cc_meaning_insn.specs.Spelling.{int_units, SpellsPacked, SpellsSparse, SpellsArray, SpellsUnits}
use Rattle.cc_meaning_insn.specs.Laws.{AreUnits}
use Rattle.cc_meaning_insn.proofs.Signed.{signed_sound, signed_only}
use Rattle.cc_meaning_insn.proofs.OpcodeLaws.{there_ok, there_is}

pub small_head : (u : ℕ) (us : List ℕ) → AreUnits (u ∷ us) → u < 65536
small_head u us all = All-head (λ n. n < 65536) u us all

pub small_tail : (u : ℕ) (us : List ℕ) → AreUnits (u ∷ us) → AreUnits us
small_tail u us all = All-tail (λ n. n < 65536) u us all

-- the units in front that an instruction takes, and those behind them
pub record Part (units : List ℕ) (insn : Insn) (size : ℕ) : Type 0 where
  pub part : List ℕ
  pub after : List ℕ
  pub parts : units ≡ part ++ after
  pub count : size ≡ length part
  pub spelled : SpellsUnits part insn

-- ---- signed numbers in two units each

units_of_int : (low high : ℕ) → low < 65536 → high < 65536 → int_units (int_of low high) ≡ low ∷ high ∷ []
units_of_int low high h k =
    let s = signed_sound w32 (low + 65536 * high) (omega arith) in
    let first : modulo (int_of low high) (2 ^ 32) % 65536 ≡ low = omega (arith, s.as_bits) in
    let second : modulo (int_of low high) (2 ^ 32) / 65536 ≡ high = omega (arith, s.as_bits) in
    λ i. first i ∷ second i ∷ []

int_of_units : (z : ℤ) → FitsSigned w32 z → int_of (modulo z (2 ^ 32) % 65536) (modulo z (2 ^ 32) / 65536) ≡ z
int_of_units z f =
    let n = modulo z (2 ^ 32) in
    sym (signed_only w32 (n % 65536 + 65536 * (n / 65536)) z (record { fits = f; as_bits = omega arith }))

-- the numbers that an even number of units give spell these units
record Spelled (units : List ℕ) (count : ℕ) : Type 0 where
  back : flat_map int_units (ints_of units) ≡ units
  as_many : length (ints_of units) ≡ count
  fit : All (FitsSigned w32) (ints_of units)

ints_sound : (units : List ℕ) (count : ℕ) → length units ≡ 2 * count → AreUnits units → Spelled units count
unfolding ints_of
ints_sound [] count h all = record { back = refl; as_many = omega arith; fit = All-nil (FitsSigned w32) }
ints_sound (low ∷ []) count h all = absurd (omega arith)
ints_sound (low ∷ high ∷ rest) count h all =
    let tail = small_tail low (high ∷ rest) all in
    let small_low = small_head low (high ∷ rest) all in
    let small_high = small_head high rest tail in
    let inner = ints_sound rest (count - 1) (omega arith) (small_tail high rest tail) in
    let s = signed_sound w32 (low + 65536 * high) (omega arith) in
    record {
      back = λ i. units_of_int low high small_low small_high i ++ inner.back i;
      as_many = omega (arith, inner.as_many);
      fit = All-cons (FitsSigned w32) (int_of low high) (ints_of rest) s.fits inner.fit;
    }

length_units : (zs : List ℤ) → length (flat_map int_units zs) ≡ 2 * length zs
length_units [] = refl
length_units (z ∷ zs) = omega (arith, length_units zs)

ints_back : (zs : List ℤ) → All (FitsSigned w32) zs → ints_of (flat_map int_units zs) ≡ zs
unfolding ints_of
ints_back [] all = refl
ints_back (z ∷ zs) all =
    λ i. int_of_units z (All-head (FitsSigned w32) z zs all) i ∷ ints_back zs (All-tail (FitsSigned w32) z zs all) i

-- ---- packed

pub packed_sound : (first : ℕ) (rest : List ℕ) → AreUnits rest → first ≡ 256 → (insn : Insn) (size : ℕ) →
    packed_payload (first ∷ rest) ≡ Ok (insn, size) → Part (first ∷ rest) insn size
unfolding packed_payload
packed_sound first [] all f insn size e =
    absurd (omega (arith, (there_ok 4 (first ∷ []) (PackedPayload (int_of 0 0) (ints_of (slice_range (first ∷ []) 4 4))) insn size e).0))
packed_sound first (n ∷ []) all f insn size e =
    absurd (omega (arith, (there_ok (n * 2 + 4) (first ∷ n ∷ []) (PackedPayload (int_of 0 0) (ints_of (slice_range (first ∷ n ∷ []) 4 (n * 2 + 4)))) insn size e).0))
packed_sound first (n ∷ low ∷ []) all f insn size e =
    absurd (omega (
      arith,
      (there_ok (n * 2 + 4) (first ∷ n ∷ low ∷ []) (PackedPayload (int_of low 0) (ints_of (slice_range (first ∷ n ∷ low ∷ []) 4 (n * 2 + 4)))) insn size e).0,
    ))
packed_sound first (n ∷ low ∷ high ∷ tail) all f insn size e =
    let here = n * 2 + 4 - 4 in
    let data_units = take here tail in
    let t = there_ok (n * 2 + 4) (first ∷ n ∷ low ∷ high ∷ tail) (PackedPayload (int_of low high) (ints_of data_units)) insn size e in
    let enough : here ≤ length tail = omega (arith, t.0) in
    let many : length data_units ≡ 2 * n = length-take-le here tail enough ∙ omega arith in
    let all_low = small_tail n (low ∷ high ∷ tail) all in
    let all_high = small_tail low (high ∷ tail) all_low in
    let all_tail = small_tail high tail all_high in
    let small_low = small_head low (high ∷ tail) all_low in
    let small_high = small_head high tail all_high in
    let s = ints_sound data_units n many (All-take (λ u. u < 65536) here tail all_tail) in
    let key = signed_sound w32 (low + 65536 * high) (omega arith) in
    record {
      part = first ∷ n ∷ low ∷ high ∷ data_units;
      after = drop here tail;
      parts = ap (λ u. first ∷ n ∷ low ∷ high ∷ u) (sym (take-append-drop here tail));
      count = sym t.2 ∙ omega (arith, many);
      spelled = inr (inl (record {
        first = int_of low high;
        targets = ints_of data_units;
        first_fits = key.fits;
        targets_fit = s.fit;
        stands = sym (λ i. (sym f i ∷ s.as_many i ∷ units_of_int low high small_low small_high i) ++ s.back i);
        made = sym t.1;
      }));
    }

pub packed_only : (part after : List ℕ) (insn : Insn) → SpellsPacked part insn → packed_payload (part ++ after) ≡ Ok (insn, length part)
unfolding packed_payload
packed_only part after insn s =
    let data_units = flat_map int_units s.targets in
    let low = modulo s.first (2 ^ 32) % 65536 in
    let high = modulo s.first (2 ^ 32) / 65536 in
    let n = length s.targets in
    let size = n * 2 + 4 in
    let many : length data_units ≡ size - 4 = length_units s.targets ∙ omega arith in
    let whole = 256 ∷ n ∷ low ∷ high ∷ data_units in
    ap (λ p. packed_payload (p ++ after)) s.stands
    ∙ there_is size (whole ++ after) (PackedPayload (int_of low high) (ints_of (take (size - 4) (data_units ++ after)))) (omega (arith, many, length-append data_units after))
    ∙ (λ i. Ok (PackedPayload (int_of_units s.first s.first_fits i) (ints_of (take_at data_units after (size - 4) many i)), size))
    ∙ ap (λ zs. Ok (PackedPayload s.first zs, size)) (ints_back s.targets s.targets_fit)
    ∙ (λ i. Ok (sym s.made i, (let e : size ≡ length whole = omega (arith, many) in e) i))
    ∙ ap (λ p. Ok (insn, length p)) (sym s.stands)

-- ---- sparse

behind_head : (first n : ℕ) (tail : List ℕ) → drop (n * 2 + 2) (first ∷ n ∷ tail) ≡ drop (2 * n) tail
behind_head first n tail = ap (λ k. drop k (first ∷ n ∷ tail)) (omega arith) ∙ sym (drop-drop (2 * n) 2 (first ∷ n ∷ tail))

sparse_made : (first n : ℕ) (tail : List ℕ) →
    SparsePayload (ints_of (slice_range (first ∷ n ∷ tail) 2 (n * 2 + 2))) (ints_of (slice_range (first ∷ n ∷ tail) (n * 2 + 2) (n * 4 + 2)))
    ≡ SparsePayload (ints_of (take (2 * n) tail)) (ints_of (take (2 * n) (drop (2 * n) tail)))
sparse_made first n tail =
    let one : n * 2 + 2 - 2 ≡ 2 * n = omega arith in
    let two : n * 4 + 2 - (n * 2 + 2) ≡ 2 * n = omega arith in
    λ i. SparsePayload (ints_of (take (one i) tail)) (ints_of (take (two i) (behind_head first n tail i)))

pub sparse_sound : (first : ℕ) (rest : List ℕ) → AreUnits rest → first ≡ 512 → (insn : Insn) (size : ℕ) →
    sparse_payload (first ∷ rest) ≡ Ok (insn, size) → Part (first ∷ rest) insn size
unfolding sparse_payload
sparse_sound first [] all f insn size e =
    absurd (omega (arith, (there_ok 2 (first ∷ []) (SparsePayload (ints_of (slice_range (first ∷ []) 2 2)) (ints_of (slice_range (first ∷ []) 2 2))) insn size e).0))
sparse_sound first (n ∷ tail) all f insn size e =
    let units = first ∷ n ∷ tail in
    let t = there_ok (n * 4 + 2) units (SparsePayload (ints_of (slice_range units 2 (n * 2 + 2))) (ints_of (slice_range units (n * 2 + 2) (n * 4 + 2)))) insn size e in
    let behind = drop (2 * n) tail in
    let left : length behind ≡ length tail - 2 * n = length-drop (2 * n) tail in
    let many_keys : length (take (2 * n) tail) ≡ 2 * n = length-take-le (2 * n) tail (omega (arith, t.0)) in
    let many_targets : length (take (2 * n) behind) ≡ 2 * n = length-take-le (2 * n) behind (omega (arith, t.0, left)) in
    let all_tail = small_tail n tail all in
    let keys = ints_sound (take (2 * n) tail) n many_keys (All-take (λ u. u < 65536) (2 * n) tail all_tail) in
    let all_behind = All-drop (λ u. u < 65536) (2 * n) tail all_tail in
    let targets = ints_sound (take (2 * n) behind) n many_targets (All-take (λ u. u < 65536) (2 * n) behind all_behind) in
    let joined : (take (2 * n) tail ++ take (2 * n) behind) ++ drop (2 * n) behind ≡ tail =
    append_assoc (take (2 * n) tail) (take (2 * n) behind) (drop (2 * n) behind)
    ∙ ap (λ u. take (2 * n) tail ++ u) (take-append-drop (2 * n) behind)
    ∙ take-append-drop (2 * n) tail in
    record {
      part = first ∷ n ∷ take (2 * n) tail ++ take (2 * n) behind;
      after = drop (2 * n) behind;
      parts = ap (λ u. first ∷ n ∷ u) (sym joined);
      count = sym t.2 ∙ omega (arith, length-append (take (2 * n) tail) (take (2 * n) behind), many_keys, many_targets);
      spelled = inr (inr (inl (record {
        keys = ints_of (take (2 * n) tail);
        targets = ints_of (take (2 * n) behind);
        keys_fit = keys.fit;
        targets_fit = targets.fit;
        as_many = keys.as_many ∙ sym targets.as_many;
        stands = sym (λ i. sym f i ∷ keys.as_many i ∷ keys.back i ++ targets.back i);
        made = sym t.1 ∙ sparse_made first n tail;
      })));
    }

pub sparse_only : (part after : List ℕ) (insn : Insn) → SpellsSparse part insn → sparse_payload (part ++ after) ≡ Ok (insn, length part)
unfolding sparse_payload
sparse_only part after insn s =
    let keys = flat_map int_units s.keys in
    let targets = flat_map int_units s.targets in
    let n = length s.keys in
    let whole = 512 ∷ n ∷ keys ++ targets in
    let tail = (keys ++ targets) ++ after in
    let size = n * 4 + 2 in
    let many_keys : length keys ≡ 2 * n = length_units s.keys in
    let many_targets : length targets ≡ 2 * n = omega (arith, length_units s.targets, s.as_many) in
    let long : length (keys ++ targets) ≡ 4 * n = omega (arith, length-append keys targets, many_keys, many_targets) in
    let split : tail ≡ keys ++ (targets ++ after) = append_assoc keys targets after in
    let front : take (2 * n) tail ≡ keys = ap (take (2 * n)) split ∙ take_at keys (targets ++ after) (2 * n) many_keys in
    let back : take (2 * n) (drop (2 * n) tail) ≡ targets =
    ap (λ u. take (2 * n) (drop (2 * n) u)) split ∙ ap (take (2 * n)) (drop_at keys (targets ++ after) (2 * n) many_keys)
    ∙ take_at targets after (2 * n) many_targets in
    let spelled = SparsePayload (ints_of (slice_range (512 ∷ n ∷ tail) 2 (n * 2 + 2))) (ints_of (slice_range (512 ∷ n ∷ tail) (n * 2 + 2) size)) in
    let split_up : spelled ≡ SparsePayload (ints_of keys) (ints_of targets) = sparse_made 512 n tail ∙ (λ i. SparsePayload (ints_of (front i)) (ints_of (back i))) in
    let made : spelled ≡ insn = split_up ∙ (λ i. SparsePayload (ints_back s.keys s.keys_fit i) (ints_back s.targets s.targets_fit i)) ∙ sym s.made in
    ap (λ p. sparse_payload (p ++ after)) s.stands
    ∙ there_is size (512 ∷ n ∷ tail) spelled (omega (arith, long, length-append (keys ++ targets) after))
    ∙ ap (λ i. Ok (i, size)) made
    ∙ ap (λ k. Ok (insn, k)) (omega (arith, long) ∙ ap length (sym s.stands))

-- ---- array data

length_bytes : (units : List ℕ) → length (bytes_of units) ≡ 2 * length units
unfolding bytes_of
length_bytes [] = refl
length_bytes (unit ∷ rest) = omega (arith, length_bytes rest)

-- a payload that is there is of a width, or none
array_ok : (units : List ℕ) (insn : Insn) (size : ℕ) → array_payload units ≡ Ok (insn, size) →
    (is_width (element_width units) ≡ true)
    × (if_there (array_size units) units (ArrayPayload (element_width units) (take (byte_count units) (bytes_of (slice_range units 4 (array_size units)))))
    ≡ Ok (insn, size))
unfolding array_payload
array_ok units insn size e = elim (cases_lt (length units) (array_size units)) [
  | inl short ↦
      let test : nat_lt (length units) (array_size units) ≡ true = grind (arith, nat_tests) in
      let fails : array_payload units ≡ Err fault.CutOff = rw (test, array_payload) refl in
      absurd cc
  | inr enough ↦
      let test : nat_lt (length units) (array_size units) ≡ false = grind (arith, nat_tests) in
      elim (cases_Bool (is_width (element_width units))) [
        | inl good ↦ (good, rw test (sym (rw (test, good, array_payload) refl) ∙ e))
        | inr bad ↦
            let fails : array_payload units ≡ Err fault.BadPayload = rw (test, bad, array_payload) refl in
            absurd cc
      ]
]

pub array_sound : (first : ℕ) (rest : List ℕ) → AreUnits rest → first ≡ 768 → (insn : Insn) (size : ℕ) →
    array_payload (first ∷ rest) ≡ Ok (insn, size) → Part (first ∷ rest) insn size
array_sound first [] all f insn size e =
    let units = first ∷ [] in
    absurd (omega (arith, (there_ok (array_size units) units (ArrayPayload (element_width units) (take (byte_count units) (bytes_of (slice_range units 4 (array_size units))))) insn size (array_ok units insn size e).1).0))
array_sound first (w ∷ []) all f insn size e =
    let units = first ∷ w ∷ [] in
    absurd (omega (arith, (there_ok (array_size units) units (ArrayPayload (element_width units) (take (byte_count units) (bytes_of (slice_range units 4 (array_size units))))) insn size (array_ok units insn size e).1).0))
array_sound first (w ∷ low ∷ []) all f insn size e =
    let units = first ∷ w ∷ low ∷ [] in
    absurd (omega (arith, (there_ok (array_size units) units (ArrayPayload (element_width units) (take (byte_count units) (bytes_of (slice_range units 4 (array_size units))))) insn size (array_ok units insn size e).1).0))
array_sound first (w ∷ low ∷ high ∷ tail) all f insn size e =
    let units = first ∷ w ∷ low ∷ high ∷ tail in
    let bytes = two_units_of low high * w in
    let here = (bytes + 1) / 2 + 4 - 4 in
    let data_units = take here tail in
    let ok = array_ok units insn size e in
    let t = there_ok ((bytes + 1) / 2 + 4) units (ArrayPayload w (take bytes (bytes_of data_units))) insn size ok.1 in
    let enough : here ≤ length tail = omega (arith, t.0) in
    let many : length data_units ≡ here = length-take-le here tail enough in
    let twice : length (bytes_of data_units) ≡ 2 * here = length_bytes data_units ∙ omega (arith, many) in
    let all_low = small_tail w (low ∷ high ∷ tail) all in
    let all_high = small_tail low (high ∷ tail) all_low in
    let small_low = small_head low (high ∷ tail) all_low in
    let little_low : two_units_of low high % 65536 ≡ low = omega arith in
    let little_high : two_units_of low high / 65536 ≡ high = omega arith in
    record {
      part = first ∷ w ∷ low ∷ high ∷ data_units;
      after = drop here tail;
      parts = ap (λ u. first ∷ w ∷ low ∷ high ∷ u) (sym (take-append-drop here tail));
      count = sym t.2 ∙ omega (arith, many);
      spelled = inr (inr (inr (record {
        width = w;
        count = two_units_of low high;
        data_units = data_units;
        bytes = take bytes (bytes_of data_units);
        filling = drop bytes (bytes_of data_units);
        of_number = ok.0;
        elements = length-take-le bytes (bytes_of data_units) (omega (arith, twice));
        little = omega (arith, length-drop bytes (bytes_of data_units), twice);
        held = sym (take-append-drop bytes (bytes_of data_units));
        stands = λ i. f i ∷ w ∷ sym little_low i ∷ sym little_high i ∷ data_units;
        made = sym t.1;
      })));
    }

pub array_there : (units : List ℕ) → array_size units ≤ length units → is_width (element_width units) ≡ true →
    array_payload units
    ≡ Ok (ArrayPayload (element_width units) (take (byte_count units) (bytes_of (slice_range units 4 (array_size units)))), array_size units)
unfolding array_payload
array_there units enough good =
    let test : nat_lt (length units) (array_size units) ≡ false = grind (arith, nat_tests) in
    rw (test, good, array_payload) refl

pub array_only : (part after : List ℕ) (insn : Insn) → SpellsArray part insn → array_payload (part ++ after) ≡ Ok (insn, length part)
array_only part after insn s =
    let low = s.count % 65536 in
    let high = s.count / 65536 in
    let bytes = two_units_of low high * s.width in
    let size = (bytes + 1) / 2 + 4 in
    let whole = 768 ∷ s.width ∷ low ∷ high ∷ s.data_units in
    let number : two_units_of low high ≡ s.count = omega arith in
    let many : length s.bytes ≡ bytes = s.elements ∙ ap (λ n. n * s.width) (sym number) in
    let twice : length s.bytes + length s.filling ≡ 2 * length s.data_units =
    sym (length-append s.bytes s.filling) ∙ ap length (sym s.held) ∙ length_bytes s.data_units in
    let long : length s.data_units ≡ (bytes + 1) / 2 = half bytes (length s.filling) (length s.data_units) s.little (sym (ap (λ n. n + length s.filling) many) ∙ twice) in
    let held : take bytes (bytes_of s.data_units) ≡ s.bytes = ap (take bytes) s.held ∙ take_at s.bytes s.filling bytes many in
    ap (λ p. array_payload (p ++ after)) s.stands
    ∙ array_there (whole ++ after) (room ((bytes + 1) / 2) long) s.of_number
    ∙ ap (λ d. Ok (ArrayPayload s.width (take bytes (bytes_of d)), size)) (take_at s.data_units after (size - 4) (behind ((bytes + 1) / 2) (length s.data_units) long))
    ∙ ap (λ b. Ok (ArrayPayload s.width b, size)) held
    ∙ ap (λ i. Ok (i, size)) (sym s.made)
    ∙ ap (λ k. Ok (insn, k)) (whole_size ((bytes + 1) / 2) long ∙ ap length (sym s.stands))
  where
    half : (bytes filling units : ℕ) → filling < 2 → bytes + filling ≡ 2 * units → units ≡ (bytes + 1) / 2
    half bytes filling units h e = omega arith

    behind : (h units : ℕ) → units ≡ h → units ≡ h + 4 - 4
    behind h units e = omega arith

    room : (h : ℕ) → length s.data_units ≡ h → h + 4 ≤ length (768 ∷ s.width ∷ (s.count % 65536) ∷ (s.count / 65536) ∷ (s.data_units ++ after))
    room h e = omega (arith, length-append s.data_units after)

    whole_size : (h : ℕ) → length s.data_units ≡ h → h + 4 ≡ length (768 ∷ s.width ∷ (s.count % 65536) ∷ (s.count / 65536) ∷ s.data_units)
    whole_size h e = omega arith
