-- An instruction is decoded exactly where units spell it.
use Rattle.std.proofs.Common.{◌≡◌, ◌≢◌, ℕ, suc, ◌+◌, ◌-◌, ◌*◌, ◌/◌, ◌%◌, ◌<◌, ◌⊎◌, inl, inr, List, [], ◌∷◌, ◌++◌, length, take, drop, Ok, Err, refl, sym, ap, ◌∙◌, subst, arith}
use Rattle.std.specs.Prelude.{slice_range}
use Rattle.std.proofs.lemmas.Bool.{cases_lt, cases_eq}
use Rattle.std.proofs.lemmas.Bool.Decides.{nat_tests}
use Rattle.std.proofs.lemmas.List.{length-append, length-take-le, length-drop, drop_all, take-append-drop, take_at}
use Rattle.std.proofs.lemmas.List.Elements.{All-drop}
use Rattle.cc_meaning.specs.declared.instruction.Insn.{Insn}
use Rattle.cc_meaning.specs.declared.fault.InsnFault.TheVariants as fault
use Rattle.cc_meaning_insn.specs.Opcodes.{opcode_at}
use Rattle.cc_meaning_insn.specs.Payloads.{packed_payload, sparse_payload, array_payload}
use Rattle.cc_meaning_insn.specs.Decoded.{of_opcode, front_of, decoded}
use Rattle.cc_meaning_insn.specs.Spelling.{SpellsUnits, Spells}
use Rattle.cc_meaning_insn.specs.Laws.{AreUnits, InsnAgrees}
use Rattle.cc_meaning_insn.proofs.OpcodeLaws.{opcode_sound, opcode_only}
use Rattle.cc_meaning_insn.proofs.PayloadLaws.{Part, packed_sound, packed_only, sparse_sound, sparse_only, array_sound, array_only, small_tail}

pub front_nil : front_of [] ≡ Err fault.CutOff
unfolding front_of
front_nil = refl

pub front-packed : (rest : List ℕ) (first : ℕ) → first ≡ 256 → front_of (first ∷ rest) ≡ packed_payload (first ∷ rest)
unfolding front_of
front-packed rest first e = grind (arith, nat_tests)

pub front-sparse : (rest : List ℕ) (first : ℕ) → first ≡ 512 → front_of (first ∷ rest) ≡ sparse_payload (first ∷ rest)
unfolding front_of
front-sparse rest first e = grind (arith, nat_tests)

pub front-array : (rest : List ℕ) (first : ℕ) → first ≡ 768 → front_of (first ∷ rest) ≡ array_payload (first ∷ rest)
unfolding front_of
front-array rest first e = grind (arith, nat_tests)

-- the unit begins no payload
pub record IsPlain (first : ℕ) : Type 0 where
  pub packed : first ≢ 256
  pub sparse : first ≢ 512
  pub array : first ≢ 768

pub front-opcode : (rest : List ℕ) (first : ℕ) → IsPlain first → front_of (first ∷ rest) ≡ of_opcode (opcode_at (first % 256)) (first ∷ rest)
unfolding front_of
front-opcode rest first p =
    let a = p.packed in
    let b = p.sparse in
    let c = p.array in
    grind (arith, nat_tests)

no_payload : (first : ℕ) → IsPlain first → first % 256 ≡ 0 → (first / 256 ≡ 0) ⊎ (3 < first / 256)
no_payload first p e = elim (cases_eq (first / 256) 0) [
  | inl none ↦ inl none
  | inr some ↦ elim (cases_lt 3 (first / 256)) [
    | inl above ↦ inr above
    | inr few ↦ elim (cases_eq (first / 256) 1) [
      | inl one ↦ absurd (p.packed (omega arith))
      | inr a ↦ elim (cases_eq (first / 256) 2) [
        | inl two ↦ absurd (p.sparse (omega arith))
        | inr b ↦ absurd (p.array (omega arith))
      ]
    ]
  ]
]

is_plain : (opcode high : ℕ) → opcode < 256 → (opcode ≡ 0 → (high ≡ 0) ⊎ (3 < high)) → IsPlain (opcode + 256 * high)
is_plain opcode high h plain =
    record {
      packed = λ e. apart (plain (omega arith)) 1 (omega arith) (omega arith) (omega arith);
      sparse = λ e. apart (plain (omega arith)) 2 (omega arith) (omega arith) (omega arith);
      array = λ e. apart (plain (omega arith)) 3 (omega arith) (omega arith) (omega arith);
    }
  where
    apart : (high ≡ 0) ⊎ (3 < high) → (k : ℕ) → 0 < k → k < 4 → high ≡ k → ⊥
    apart (inl none) k some few e = omega arith
    apart (inr above) k some few e = omega arith

form_sound : (first : ℕ) (rest : List ℕ) → AreUnits (first ∷ rest) → IsPlain first → (insn : Insn) (size : ℕ) →
    of_opcode (opcode_at (first % 256)) (first ∷ rest) ≡ Ok (insn, size) → Part (first ∷ rest) insn size
form_sound first rest all p insn size e =
    let t = opcode_sound (opcode_at (first % 256)) first rest all insn size e in
    let whole : first ≡ first % 256 + 256 * (first / 256) = omega arith in
    record {
      part = first ∷ t.more;
      after = t.after;
      parts = ap (λ u. first ∷ u) t.parts;
      count = t.count ∙ omega arith;
      spelled = inl (record {
        opcode = first % 256;
        high = first / 256;
        more = t.more;
        low = omega arith;
        no_payload = no_payload first p;
        stands = ap (λ u. u ∷ t.more) whole;
        spelled = t.spelled;
      });
    }

front_sound : (units : List ℕ) → AreUnits units → (insn : Insn) (size : ℕ) → front_of units ≡ Ok (insn, size) → Part units insn size
front_sound [] all insn size e = absurd (cc front_nil)
front_sound (first ∷ rest) all insn size e = elim (cases_eq first 256) [
  | inl packed ↦ packed_sound first rest (small_tail first rest all) packed insn size (sym (front-packed rest first packed) ∙ e)
  | inr a ↦ elim (cases_eq first 512) [
    | inl sparse ↦ sparse_sound first rest (small_tail first rest all) sparse insn size (sym (front-sparse rest first sparse) ∙ e)
    | inr b ↦ elim (cases_eq first 768) [
      | inl array ↦ array_sound first rest (small_tail first rest all) array insn size (sym (front-array rest first array) ∙ e)
      | inr c ↦
          let p : IsPlain first = record { packed = a; sparse = b; array = c } in
          form_sound first rest all p insn size (sym (front-opcode rest first p) ∙ e)
    ]
  ]
]

front_only : (part after : List ℕ) (insn : Insn) → SpellsUnits part insn → front_of (part ++ after) ≡ Ok (insn, length part)
front_only part after insn (inl s) =
    let first = s.opcode + 256 * s.high in
    let low = s.low in
    let high_is : first / 256 ≡ s.high = omega arith in
    let opcode_is : first % 256 ≡ s.opcode = omega arith in
    ap (λ p. front_of (p ++ after)) s.stands
    ∙ front-opcode (s.more ++ after) first (is_plain s.opcode s.high s.low s.no_payload)
    ∙ ap (λ o. of_opcode (opcode_at o) (first ∷ s.more ++ after)) opcode_is
    ∙ opcode_only (opcode_at s.opcode) first s.high s.more after insn high_is s.spelled
    ∙ ap (λ k. Ok (insn, k)) (one_more (length s.more) ∙ ap length (sym s.stands))
  where
    one_more : (n : ℕ) → 1 + n ≡ suc n
    one_more n = omega arith
front_only part after insn (inr (inl s)) =
    ap (λ p. front_of (p ++ after)) s.stands ∙ front-packed _ 256 refl ∙ ap (λ p. packed_payload (p ++ after)) (sym s.stands) ∙ packed_only part after insn s
front_only part after insn (inr (inr (inl s))) =
    ap (λ p. front_of (p ++ after)) s.stands ∙ front-sparse _ 512 refl ∙ ap (λ p. sparse_payload (p ++ after)) (sym s.stands) ∙ sparse_only part after insn s
front_only part after insn (inr (inr (inr s))) =
    ap (λ p. front_of (p ++ after)) s.stands ∙ front-array _ 768 refl ∙ ap (λ p. array_payload (p ++ after)) (sym s.stands) ∙ array_only part after insn s

decoded_sound : (units : List ℕ) → AreUnits units → (at : ℕ) (insn : Insn) (size : ℕ) → decoded units at ≡ Ok (insn, size) → Spells units at insn size
unfolding decoded
decoded_sound units all at insn size e = elim (cases_lt at (length units)) [
  | inl inside ↦
      let p = front_sound (drop at units) (All-drop (λ u. u < 65536) at units all) insn size e in
      let here : slice_range units at (at + size) ≡ p.part =
      ap (λ u. take (at + size - at) u) p.parts ∙ take_at p.part p.after (at + size - at) (omega (arith, p.count)) in
      let P : List ℕ → Type 0 = λ u. SpellsUnits u insn in
      record {
        within = omega (arith, p.count, ap length p.parts, length-drop at units, length-append p.part p.after);
        spelled = subst P (sym here) p.spelled;
      }
  | inr past ↦ absurd (cc (ap front_of (drop_all at units past) ∙ front_nil))
]

decoded_only : (units : List ℕ) (at : ℕ) (insn : Insn) (size : ℕ) → Spells units at insn size → decoded units at ≡ Ok (insn, size)
unfolding decoded
decoded_only units at insn size s =
    let within = s.within in
    let here = at + size - at in
    let part = slice_range units at (at + size) in
    let long : length part ≡ size = length-take-le here (drop at units) (omega (arith, length-drop at units)) ∙ omega arith in
    ap front_of (sym (take-append-drop here (drop at units)))
    ∙ front_only part (drop here (drop at units)) insn s.spelled
    ∙ ap (λ k. Ok (insn, k)) long

pub insn_agrees : InsnAgrees
insn_agrees units all at insn size = (decoded_sound units all at insn size, decoded_only units at insn size)
