-- Each fault comes exactly where its units stand.
use Rattle.std.proofs.Common.{◌≡◌, ◌≢◌, ℕ, ◌+◌, ◌/◌, ◌%◌, ◌<◌, ◌≤◌, ◌⊎◌, inl, inr, true, false, List, ◌∷◌, length, drop, get_or, Ok, Err, refl, sym, ap, ◌∙◌, subst, arith}
use Rattle.std.specs.Prelude.{nat_lt}
use Rattle.std.proofs.lemmas.Bool.{cases_lt, cases_eq, cases_Bool}
use Rattle.std.proofs.lemmas.Bool.Decides.{nat_tests}
use Rattle.std.proofs.lemmas.List.{drop_all, drop_more}
use Rattle.cc_meaning.specs.declared.instruction.Insn.{Insn}
use Rattle.cc_meaning.specs.declared.fault.InsnFault.{InsnFault}
use Rattle.cc_meaning.specs.declared.fault.InsnFault.TheVariants as fault
use Rattle.cc_meaning_insn.specs.declared.forms.Opcode.{Opcode}
use Rattle.cc_meaning_insn.specs.declared.forms.Opcode.TheVariants.{Float, Unused, One, Two, Three, Five, Listed, Ranged}
use Rattle.cc_meaning_insn.specs.declared.forms.OneUnit.TheVariants.{F10x}
use Rattle.cc_meaning_insn.specs.declared.forms.Bare.TheVariants.{Nop}
use Rattle.cc_meaning_insn.specs.declared.forms.Listed as list_of
use Rattle.cc_meaning_insn.specs.Opcodes.{kinds, tests, hows, ops, literal_ops, shifts, moves_and_returns, constants, objects, jumps, accesses, invokes, unary_ops, binary_ops, literal_forms, opcodes, opcode_at}
use Rattle.cc_meaning_insn.specs.Forms.{one_unit, two_units, three_units, listed_units, ranged_units}
use Rattle.cc_meaning_insn.specs.Payloads.{packed_payload, sparse_payload, array_payload, array_size, element_width, is_width}
use Rattle.cc_meaning_insn.specs.Decoded.{if_there, of_opcode, front_of, decoded}
use Rattle.cc_meaning_insn.specs.Spelling.{Spells}
use Rattle.cc_meaning_insn.specs.Laws.{AreUnits, opcode_of, IsFloatAt, NamesTooMany, IsUnusedAt, IsBadPayloadAt, InsnFaults}
use Rattle.cc_meaning_insn.proofs.OpcodeLaws.{Found}
use Rattle.cc_meaning_insn.proofs.PayloadLaws.{array_there}
use Rattle.cc_meaning_insn.proofs.InsnLaws.{IsPlain, front_nil, front-packed, front-sparse, front-array, front-opcode, insn_agrees}

-- an instruction that isn't there is cut off
there_err : (size : ℕ) (units : List ℕ) (made : Insn) (f : InsnFault) → if_there size units made ≡ Err f → f ≡ fault.CutOff
there_err size units made f e = elim (cases_lt (length units) size) [
  | inl short ↦
      let fails : if_there size units made ≡ Err fault.CutOff = grind (arith, nat_tests) in
      cc
  | inr enough ↦
      let found : if_there size units made ≡ Ok (made, size) = grind (arith, nat_tests) in
      absurd cc
]

-- the faults of an opcode
data OpcodeFault (opcode : Opcode) (first : ℕ) (f : InsnFault) : Type 0 where
  cut : f ≡ fault.CutOff → OpcodeFault opcode first f
  float : f ≡ fault.Float → opcode ≡ Float → OpcodeFault opcode first f
  unused : f ≡ fault.Unused → opcode ≡ Unused → OpcodeFault opcode first f
  many : f ≡ fault.Unused → (form : list_of.Listed) → opcode ≡ Listed form → 5 < first / 4096 → OpcodeFault opcode first f

opcode_err : (opcode : Opcode) (first : ℕ) (rest : List ℕ) (f : InsnFault) → of_opcode opcode (first ∷ rest) ≡ Err f → OpcodeFault opcode first f
unfolding of_opcode
opcode_err Float first rest f e = float (sym cc) refl
opcode_err Unused first rest f e = unused (sym cc) refl
opcode_err (One form) first rest f e = cut (there_err 1 (first ∷ rest) (one_unit form (first / 256)) f e)
opcode_err (Two form) first rest f e = cut (there_err 2 (first ∷ rest) (two_units form (first / 256) (get_or rest 0 0)) f e)
opcode_err (Three form) first rest f e = cut (there_err 3 (first ∷ rest) (three_units form (first / 256) (get_or rest 0 0) (get_or rest 1 0)) f e)
opcode_err Five first rest f e = cut (there_err 5 (first ∷ rest) _ f e)
opcode_err (Listed form) first rest f e = elim (cases_lt 5 (first / 256 / 16)) [
  | inl above ↦
      let test : nat_lt 5 (first / 256 / 16) ≡ true = grind (arith, nat_tests) in
      let fails : of_opcode (Listed form) (first ∷ rest) ≡ Err fault.Unused = rw (test, of_opcode) refl in
      let is : f ≡ fault.Unused = cc in
      many is form refl (omega arith)
  | inr few ↦
      let test : nat_lt 5 (first / 256 / 16) ≡ false = grind (arith, nat_tests) in
      cut (there_err 3 (first ∷ rest) (listed_units form (first / 256) (get_or rest 0 0) (get_or rest 1 0)) f (rw (test, of_opcode) at e))
]
opcode_err (Ranged form) first rest f e = cut (there_err 3 (first ∷ rest) (ranged_units form (first / 256) (get_or rest 0 0) (get_or rest 1 0)) f e)

packed_err : (units : List ℕ) (f : InsnFault) → packed_payload units ≡ Err f → f ≡ fault.CutOff
unfolding packed_payload
packed_err units f e = there_err _ units _ f e

sparse_err : (units : List ℕ) (f : InsnFault) → sparse_payload units ≡ Err f → f ≡ fault.CutOff
unfolding sparse_payload
sparse_err units f e = there_err _ units _ f e

array_err : (units : List ℕ) (f : InsnFault) → array_payload units ≡ Err f →
    (f ≡ fault.CutOff) ⊎ ((f ≡ fault.BadPayload) × (array_size units ≤ length units) × (is_width (element_width units) ≡ false))
unfolding array_payload
array_err units f e = elim (cases_lt (length units) (array_size units)) [
  | inl short ↦
      let test : nat_lt (length units) (array_size units) ≡ true = grind (arith, nat_tests) in
      let fails : array_payload units ≡ Err fault.CutOff = rw (test, array_payload) refl in
      inl cc
  | inr enough ↦
      let test : nat_lt (length units) (array_size units) ≡ false = grind (arith, nat_tests) in
      elim (cases_Bool (is_width (element_width units))) [
        | inl good ↦
            let found = array_there units enough good in
            absurd cc
        | inr bad ↦
            let fails : array_payload units ≡ Err fault.BadPayload = rw (test, bad, array_payload) refl in
            inr (cc, enough, bad)
      ]
]

array_bad : (units : List ℕ) → array_size units ≤ length units → is_width (element_width units) ≡ false → array_payload units ≡ Err fault.BadPayload
unfolding array_payload
array_bad units enough bad =
    let test : nat_lt (length units) (array_size units) ≡ false = grind (arith, nat_tests) in
    rw (test, bad, array_payload) refl

-- the faults of what stands in front
data FrontFault (first : ℕ) (rest : List ℕ) (f : InsnFault) : Type 0 where
  by_opcode : OpcodeFault (opcode_at (first % 256)) first f → FrontFault first rest f
  cut : f ≡ fault.CutOff → FrontFault first rest f
  bad : f ≡ fault.BadPayload → first ≡ 768 → array_size (first ∷ rest) ≤ length (first ∷ rest) → is_width (element_width (first ∷ rest)) ≡ false → FrontFault first rest f

front_err : (first : ℕ) (rest : List ℕ) (f : InsnFault) → front_of (first ∷ rest) ≡ Err f → FrontFault first rest f
front_err first rest f e = elim (cases_eq first 256) [
  | inl packed ↦ cut (packed_err (first ∷ rest) f (sym (front-packed rest first packed) ∙ e))
  | inr a ↦ elim (cases_eq first 512) [
    | inl sparse ↦ cut (sparse_err (first ∷ rest) f (sym (front-sparse rest first sparse) ∙ e))
    | inr b ↦ elim (cases_eq first 768) [
      | inl array ↦ elim (array_err (first ∷ rest) f (sym (front-array rest first array) ∙ e)) [ inl c ↦ cut c | inr h ↦ bad h.0 array h.1 h.2 ]
      | inr c ↦ by_opcode (opcode_err (opcode_at (first % 256)) first rest f (sym (front-opcode rest first (record { packed = a; sparse = b; array = c })) ∙ e))
    ]
  ]
]

opcode_zero : opcode_at 0 ≡ One (F10x Nop)
unfolding kinds tests hows ops literal_ops shifts moves_and_returns constants objects jumps accesses invokes unary_ops binary_ops literal_forms opcodes opcode_at
opcode_zero = refl

-- a unit whose opcode isn't `nop` begins no payload
not_nop : (first : ℕ) (opcode : Opcode) → opcode_at (first % 256) ≡ opcode → opcode ≢ One (F10x Nop) → IsPlain first
not_nop first opcode e n = record {
  packed = λ same. n (sym e ∙ ap opcode_at (omega arith) ∙ opcode_zero);
  sparse = λ same. n (sym e ∙ ap opcode_at (omega arith) ∙ opcode_zero);
  array = λ same. n (sym e ∙ ap opcode_at (omega arith) ∙ opcode_zero);
}

decoded_past : (units : List ℕ) (at : ℕ) → length units ≤ at → decoded units at ≡ Err fault.CutOff
unfolding decoded
decoded_past units at h = ap front_of (drop_all at units h) ∙ front_nil

decoded_here : (units : List ℕ) (at : ℕ) → at < length units → decoded units at ≡ front_of (get_or units at 0 ∷ drop (at + 1) units)
unfolding decoded
decoded_here units at h = ap front_of (drop_more units at 0 h)

-- a fault other than the end of the units comes of what stands at `at`
fault_at : (units : List ℕ) (at : ℕ) (f : InsnFault) → decoded units at ≡ Err f → f ≢ fault.CutOff →
    (at < length units) × FrontFault (get_or units at 0) (drop (at + 1) units) f
fault_at units at f e n = elim (cases_lt at (length units)) [
  | inl inside ↦ (inside, front_err (get_or units at 0) (drop (at + 1) units) f (sym (decoded_here units at inside) ∙ e))
  | inr past ↦
      let cut = decoded_past units at past in
      absurd (n cc)
]

plain_fault : (units : List ℕ) (at : ℕ) (opcode : Opcode) (f : InsnFault) → at < length units → opcode_of units at ≡ opcode → opcode ≢ One (F10x Nop) →
    of_opcode opcode (get_or units at 0 ∷ drop (at + 1) units) ≡ Err f → decoded units at ≡ Err f
plain_fault units at opcode f inside e n fails =
    decoded_here units at inside ∙ front-opcode (drop (at + 1) units) (get_or units at 0) (not_nop (get_or units at 0) opcode e n)
    ∙ ap (λ o. of_opcode o (get_or units at 0 ∷ drop (at + 1) units)) e ∙ fails

-- ---- each fault

float_from : (units : List ℕ) (at : ℕ) → FrontFault (get_or units at 0) (drop (at + 1) units) fault.Float → opcode_of units at ≡ Float
float_from units at (by_opcode (cut e)) = absurd cc
float_from units at (by_opcode (float e o)) = o
float_from units at (by_opcode (unused e o)) = absurd cc
float_from units at (by_opcode (many e form o m)) = absurd cc
float_from units at (cut e) = absurd cc
float_from units at (bad e a b c) = absurd cc

float_is : (units : List ℕ) (at : ℕ) → decoded units at ≡ Err fault.Float → IsFloatAt units at
float_is units at e = let h = fault_at units at fault.Float e (λ s. absurd cc) in (h.0, float_from units at h.1)

is_float : (units : List ℕ) (at : ℕ) → IsFloatAt units at → decoded units at ≡ Err fault.Float
unfolding of_opcode
is_float units at h = plain_fault units at Float fault.Float h.0 h.1 (λ s. absurd cc) refl

unused_from : (units : List ℕ) (at : ℕ) → FrontFault (get_or units at 0) (drop (at + 1) units) fault.Unused →
    (opcode_of units at ≡ Unused) ⊎ NamesTooMany units at
unused_from units at (by_opcode (cut e)) = absurd cc
unused_from units at (by_opcode (float e o)) = absurd cc
unused_from units at (by_opcode (unused e o)) = inl o
unused_from units at (by_opcode (many e form o m)) = inr (form, o, m)
unused_from units at (cut e) = absurd cc
unused_from units at (bad e a b c) = absurd cc

unused_is : (units : List ℕ) (at : ℕ) → decoded units at ≡ Err fault.Unused → IsUnusedAt units at
unused_is units at e = let h = fault_at units at fault.Unused e (λ s. absurd cc) in (h.0, unused_from units at h.1)

listed_many : (form : list_of.Listed) (first : ℕ) (rest : List ℕ) → 5 < first / 4096 → of_opcode (Listed form) (first ∷ rest) ≡ Err fault.Unused
unfolding of_opcode
listed_many form first rest h =
    let above : 5 < first / 256 / 16 = omega arith in
    let test : nat_lt 5 (first / 256 / 16) ≡ true = grind (arith, nat_tests) in
    rw (test, of_opcode) refl

is_unused : (units : List ℕ) (at : ℕ) → IsUnusedAt units at → decoded units at ≡ Err fault.Unused
unfolding of_opcode
is_unused units at h = by_kind h.1
  where
    by_kind : (opcode_of units at ≡ Unused) ⊎ NamesTooMany units at → decoded units at ≡ Err fault.Unused
    by_kind (inl o) = plain_fault units at Unused fault.Unused h.0 o (λ s. absurd cc) refl
    by_kind (inr m) =
        plain_fault units at (Listed m.0) fault.Unused h.0 m.1 (λ s. absurd cc) (listed_many m.0 (get_or units at 0) (drop (at + 1) units) m.2)

-- what is so of the units from `at` on, as they are and as a first one and the rest
bad_from : (units : List ℕ) (at : ℕ) → drop at units ≡ get_or units at 0 ∷ drop (at + 1) units →
    FrontFault (get_or units at 0) (drop (at + 1) units) fault.BadPayload →
    (get_or units at 0 ≡ 768) × (array_size (drop at units) ≤ length (drop at units)) × (is_width (element_width (drop at units)) ≡ false)
bad_from units at d (by_opcode (cut e)) = absurd cc
bad_from units at d (by_opcode (float e o)) = absurd cc
bad_from units at d (by_opcode (unused e o)) = absurd cc
bad_from units at d (by_opcode (many e form o m)) = absurd cc
bad_from units at d (cut e) = absurd cc
bad_from units at d (bad e first enough none) =
    let P : List ℕ → Type 0 = λ u. (get_or units at 0 ≡ 768) × (array_size u ≤ length u) × (is_width (element_width u) ≡ false) in
    subst P (sym d) (first, enough, none)

bad_is : (units : List ℕ) (at : ℕ) → decoded units at ≡ Err fault.BadPayload → IsBadPayloadAt units at
bad_is units at e =
    let h = fault_at units at fault.BadPayload e (λ s. absurd cc) in
    let b = bad_from units at (drop_more units at 0 h.0) h.1 in
    (h.0, b.0, b.1, b.2)

is_bad : (units : List ℕ) (at : ℕ) → IsBadPayloadAt units at → decoded units at ≡ Err fault.BadPayload
unfolding decoded
is_bad units at h =
    let d = drop_more units at 0 h.0 in
    ap front_of d ∙ front-array (drop (at + 1) units) (get_or units at 0) h.1 ∙ ap array_payload (sym d) ∙ array_bad (drop at units) h.2 h.3

memory_from : (units : List ℕ) (at : ℕ) → FrontFault (get_or units at 0) (drop (at + 1) units) fault.Memory → ⊥
memory_from units at (by_opcode (cut e)) = absurd cc
memory_from units at (by_opcode (float e o)) = absurd cc
memory_from units at (by_opcode (unused e o)) = absurd cc
memory_from units at (by_opcode (many e form o m)) = absurd cc
memory_from units at (cut e) = absurd cc
memory_from units at (bad e a b c) = absurd cc

no_memory : (units : List ℕ) (at : ℕ) → decoded units at ≢ Err fault.Memory
no_memory units at e = memory_from units at (fault_at units at fault.Memory e (λ s. absurd cc)).1

cut_is : (units : List ℕ) → AreUnits units → (at : ℕ) → decoded units at ≡ Err fault.CutOff →
    (¬ IsFloatAt units at) × (¬ IsUnusedAt units at) × (¬ IsBadPayloadAt units at) × ((insn : Insn) (size : ℕ) → ¬ Spells units at insn size)
cut_is units all at e = (
  (λ h. let f = is_float units at h in absurd cc),
  (λ h. let f = is_unused units at h in absurd cc),
  (λ h. let f = is_bad units at h in absurd cc),
  (λ insn size s. let f = (insn_agrees units all at insn size).1 s in absurd cc),
)

is_cut : (units : List ℕ) → AreUnits units → (at : ℕ) →
    ((¬ IsFloatAt units at) × (¬ IsUnusedAt units at) × (¬ IsBadPayloadAt units at) × ((insn : Insn) (size : ℕ) → ¬ Spells units at insn size)) →
    decoded units at ≡ Err fault.CutOff
is_cut units all at h = by_answer (decoded units at) refl
  where
    by_fault : (f : InsnFault) → decoded units at ≡ Err f → decoded units at ≡ Err fault.CutOff
    by_fault fault.Float e = absurd (h.0 (float_is units at e))
    by_fault fault.Unused e = absurd (h.1 (unused_is units at e))
    by_fault fault.CutOff e = e
    by_fault fault.BadPayload e = absurd (h.2 (bad_is units at e))
    by_fault fault.Memory e = absurd (no_memory units at e)

    by_answer : (r : Found) → decoded units at ≡ r → decoded units at ≡ Err fault.CutOff
    by_answer (Ok x) e = absurd (h.3 x.0 x.1 ((insn_agrees units all at x.0 x.1).0 e))
    by_answer (Err f) e = by_fault f e

pub insn_faults : InsnFaults
insn_faults = record {
  float = λ units at. (float_is units at, is_float units at);
  unused = λ units at. (unused_is units at, is_unused units at);
  bad = λ units at. (bad_is units at, is_bad units at);
  memory = no_memory;
  cut = λ units all at. (cut_is units all at, is_cut units all at);
}
