-- Opcode by opcode: what is decoded is what the units in front spell.
use Rattle.std.proofs.Common.{◌≡◌, ℕ, ◌+◌, ◌/◌, ◌<◌, ◌≤◌, inl, inr, true, false, List, [], ◌∷◌, ◌++◌, length, get_or, Result, Ok, Err, refl, sym, ap, ◌∙◌, subst, arith}
use Rattle.std.specs.Prelude.{nat_lt, cond}
use Rattle.std.proofs.lemmas.Bool.{cases_lt}
use Rattle.std.proofs.lemmas.Bool.Decides.{nat_tests}
use Rattle.std.proofs.lemmas.List.Elements.{All-head, All-tail}
use Rattle.cc_meaning.specs.declared.instruction.Insn.{Insn}
use Rattle.cc_meaning.specs.declared.instruction.Insn.TheVariants as make
use Rattle.cc_meaning.specs.declared.fault.InsnFault.{InsnFault}
use Rattle.cc_meaning.specs.declared.fault.InsnFault.TheVariants as fault
use Rattle.cc_meaning_insn.specs.declared.forms.Opcode.{Opcode}
use Rattle.cc_meaning_insn.specs.declared.forms.Opcode.TheVariants.{Float, Unused, One, Two, Three, Five, Listed, Ranged}
use Rattle.cc_meaning_insn.specs.declared.forms.Listed as list_of
use Rattle.cc_meaning_insn.specs.Forms.{high_byte, high_half, one_unit, two_units, three_units, long_of, listed_units, ranged_units}
use Rattle.cc_meaning_insn.specs.Decoded.{if_there, of_opcode}
use Rattle.cc_meaning_insn.specs.Spelling.{SpellsOpcode}
use Rattle.cc_meaning_insn.specs.Laws.{AreUnits}
use Rattle.cc_meaning_insn.proofs.FormLaws as laws

abbrev pub Found : Type 0
Found = Result (Insn × ℕ) InsnFault

small_head : (u : ℕ) (us : List ℕ) → AreUnits (u ∷ us) → u < 65536
small_head u us all = All-head (λ n. n < 65536) u us all

small_tail : (u : ℕ) (us : List ℕ) → AreUnits (u ∷ us) → AreUnits us
small_tail u us all = All-tail (λ n. n < 65536) u us all

-- what an instruction that is there was made of
pub there_ok : (size : ℕ) (units : List ℕ) (made insn : Insn) (n : ℕ) → if_there size units made ≡ Ok (insn, n) → (size ≤ length units) × (made ≡ insn) × (size ≡ n)
there_ok size units made insn n e = elim (cases_lt (length units) size) [
  | inl short ↦
      let fails : if_there size units made ≡ Err fault.CutOff = grind (arith, nat_tests) in
      absurd cc
  | inr enough ↦
      let found : if_there size units made ≡ Ok (made, size) = grind (arith, nat_tests) in
      let P : Found → Insn × ℕ = λ r. elim r [ Ok x ↦ x | Err f ↦ (made, size) ] in
      let same : (made, size) ≡ (insn, n) = ap P (sym found ∙ e) in
      (enough, ap (λ p. p.0) same, ap (λ p. p.1) same)
]

pub there_is : (size : ℕ) (units : List ℕ) (made : Insn) → size ≤ length units → if_there size units made ≡ Ok (made, size)
there_is size units made h = grind (arith, nat_tests)

-- the units behind the first that an instruction takes, and those behind it
pub record Taken (opcode : Opcode) (high : ℕ) (rest : List ℕ) (insn : Insn) (size : ℕ) : Type 0 where
  pub more : List ℕ
  pub after : List ℕ
  pub parts : rest ≡ more ++ after
  pub count : size ≡ 1 + length more
  pub spelled : SpellsOpcode opcode high more insn

along : (opcode : Opcode) (high : ℕ) (more : List ℕ) (made insn : Insn) → made ≡ insn → SpellsOpcode opcode high more made → SpellsOpcode opcode high more insn
along opcode high more made insn e s = let P : Insn → Type 0 = λ i. SpellsOpcode opcode high more i in subst P e s

listed_few : (form : list_of.Listed) (units : List ℕ) (insn : Insn) (size : ℕ) → of_opcode (Listed form) units ≡ Ok (insn, size) →
    (high_half (high_byte (get_or units 0 0)) ≤ 5)
    × (if_there 3 units (listed_units form (high_byte (get_or units 0 0)) (get_or units 1 0) (get_or units 2 0)) ≡ Ok (insn, size))
unfolding of_opcode
listed_few form units insn size e = elim (cases_lt 5 (high_half (high_byte (get_or units 0 0)))) [
  | inl many ↦
      let test : nat_lt 5 (high_half (high_byte (get_or units 0 0))) ≡ true = grind (arith, nat_tests) in
      let fails : of_opcode (Listed form) units ≡ Err fault.Unused = rw (test, of_opcode) refl in
      absurd cc
  | inr few ↦
      let test : nat_lt 5 (high_half (high_byte (get_or units 0 0))) ≡ false = grind (arith, nat_tests) in
      (few, rw (test, of_opcode) at e)
]

pub opcode_sound : (opcode : Opcode) (first : ℕ) (rest : List ℕ) → AreUnits (first ∷ rest) → (insn : Insn) (size : ℕ) →
    of_opcode opcode (first ∷ rest) ≡ Ok (insn, size) → Taken opcode (first / 256) rest insn size
unfolding of_opcode
opcode_sound Float first rest all insn size e = absurd cc
opcode_sound Unused first rest all insn size e = absurd cc
opcode_sound (One form) first rest all insn size e =
    let t = there_ok 1 (first ∷ rest) (one_unit form (first / 256)) insn size e in
    let small = small_head first rest all in
    record {
      more = [];
      after = rest;
      parts = refl;
      count = sym t.2;
      spelled = along (One form) (first / 256) [] (one_unit form (first / 256)) insn t.1 (refl, laws.one_sound form (first / 256) (omega arith));
    }
opcode_sound (Two form) first [] all insn size e = absurd (omega (arith, (there_ok 2 (first ∷ []) (two_units form (first / 256) 0) insn size e).0))
opcode_sound (Two form) first (b ∷ after) all insn size e =
    let t = there_ok 2 (first ∷ b ∷ after) (two_units form (first / 256) b) insn size e in
    let small = small_head first (b ∷ after) all in
    let rest = small_tail first (b ∷ after) all in
    record {
      more = b ∷ [];
      after = after;
      parts = refl;
      count = sym t.2;
      spelled = along (Two form) (first / 256) (b ∷ []) (two_units form (first / 256) b) insn t.1
          (b, refl, laws.two_sound form (first / 256) b (omega arith) (small_head b after rest));
    }
opcode_sound (Three form) first [] all insn size e = absurd (omega (arith, (there_ok 3 (first ∷ []) (three_units form (first / 256) 0 0) insn size e).0))
opcode_sound (Three form) first (b ∷ []) all insn size e =
    absurd (omega (arith, (there_ok 3 (first ∷ b ∷ []) (three_units form (first / 256) b 0) insn size e).0))
opcode_sound (Three form) first (b ∷ c ∷ after) all insn size e =
    let t = there_ok 3 (first ∷ b ∷ c ∷ after) (three_units form (first / 256) b c) insn size e in
    let rest = small_tail first (b ∷ c ∷ after) all in
    record {
      more = b ∷ c ∷ [];
      after = after;
      parts = refl;
      count = sym t.2;
      spelled = along (Three form) (first / 256) (b ∷ c ∷ []) (three_units form (first / 256) b c) insn t.1
          (b, c, refl, laws.three_sound form (first / 256) b c (small_head b (c ∷ after) rest) (small_head c after (small_tail b (c ∷ after) rest)));
    }
opcode_sound Five first [] all insn size e =
    absurd (omega (arith, (there_ok 5 (first ∷ []) (make.ConstLong (first / 256) (long_of 0 0 0 0)) insn size e).0))
opcode_sound Five first (b ∷ []) all insn size e =
    absurd (omega (arith, (there_ok 5 (first ∷ b ∷ []) (make.ConstLong (first / 256) (long_of b 0 0 0)) insn size e).0))
opcode_sound Five first (b ∷ c ∷ []) all insn size e =
    absurd (omega (arith, (there_ok 5 (first ∷ b ∷ c ∷ []) (make.ConstLong (first / 256) (long_of b c 0 0)) insn size e).0))
opcode_sound Five first (b ∷ c ∷ d ∷ []) all insn size e =
    absurd (omega (arith, (there_ok 5 (first ∷ b ∷ c ∷ d ∷ []) (make.ConstLong (first / 256) (long_of b c d 0)) insn size e).0))
opcode_sound Five first (b ∷ c ∷ d ∷ g ∷ after) all insn size e =
    let t = there_ok 5 (first ∷ b ∷ c ∷ d ∷ g ∷ after) (make.ConstLong (first / 256) (long_of b c d g)) insn size e in
    let all_b = small_tail first (b ∷ c ∷ d ∷ g ∷ after) all in
    let all_c = small_tail b (c ∷ d ∷ g ∷ after) all_b in
    let all_d = small_tail c (d ∷ g ∷ after) all_c in
    let all_g = small_tail d (g ∷ after) all_d in
    record {
      more = b ∷ c ∷ d ∷ g ∷ [];
      after = after;
      parts = refl;
      count = sym t.2;
      spelled = along Five (first / 256) (b ∷ c ∷ d ∷ g ∷ []) (make.ConstLong (first / 256) (long_of b c d g)) insn t.1 (
        b,
        c,
        d,
        g,
        long_of b c d g,
        refl,
        laws.five_sound b c d g (small_head b (c ∷ d ∷ g ∷ after) all_b) (small_head c (d ∷ g ∷ after) all_c) (small_head d (g ∷ after) all_d) (small_head g after all_g),
        refl,
      );
    }
opcode_sound (Listed form) first [] all insn size e =
    absurd (omega (arith, (there_ok 3 (first ∷ []) (listed_units form (first / 256) 0 0) insn size (listed_few form (first ∷ []) insn size e).1).0))
opcode_sound (Listed form) first (b ∷ []) all insn size e =
    absurd (omega (arith, (there_ok 3 (first ∷ b ∷ []) (listed_units form (first / 256) b 0) insn size (listed_few form (first ∷ b ∷ []) insn size e).1).0))
opcode_sound (Listed form) first (b ∷ c ∷ after) all insn size e =
    let few = listed_few form (first ∷ b ∷ c ∷ after) insn size e in
    let t = there_ok 3 (first ∷ b ∷ c ∷ after) (listed_units form (first / 256) b c) insn size few.1 in
    let small = small_head first (b ∷ c ∷ after) all in
    let rest = small_tail first (b ∷ c ∷ after) all in
    record {
      more = b ∷ c ∷ [];
      after = after;
      parts = refl;
      count = sym t.2;
      spelled = along (Listed form) (first / 256) (b ∷ c ∷ []) (listed_units form (first / 256) b c) insn t.1
          (b, c, refl, laws.listed_sound form (first / 256) b c (omega arith) (small_head c after (small_tail b (c ∷ after) rest)) few.0);
    }
opcode_sound (Ranged form) first [] all insn size e = absurd (omega (arith, (there_ok 3 (first ∷ []) (ranged_units form (first / 256) 0 0) insn size e).0))
opcode_sound (Ranged form) first (b ∷ []) all insn size e =
    absurd (omega (arith, (there_ok 3 (first ∷ b ∷ []) (ranged_units form (first / 256) b 0) insn size e).0))
opcode_sound (Ranged form) first (b ∷ c ∷ after) all insn size e =
    let t = there_ok 3 (first ∷ b ∷ c ∷ after) (ranged_units form (first / 256) b c) insn size e in
    record {
      more = b ∷ c ∷ [];
      after = after;
      parts = refl;
      count = sym t.2;
      spelled = along (Ranged form) (first / 256) (b ∷ c ∷ []) (ranged_units form (first / 256) b c) insn t.1 (b, c, refl, laws.ranged_sound form (first / 256) b c);
    }

-- behind a first unit stand these, and then any others
pub opcode_only : (opcode : Opcode) (first high : ℕ) (more after : List ℕ) (insn : Insn) → first / 256 ≡ high → SpellsOpcode opcode high more insn →
    of_opcode opcode (first ∷ more ++ after) ≡ Ok (insn, 1 + length more)
unfolding of_opcode
opcode_only Float first high more after insn h s = absurd s
opcode_only Unused first high more after insn h s = absurd s
opcode_only (One form) first high more after insn h s =
    ap (λ m. of_opcode (One form) (first ∷ m ++ after)) s.0
    ∙ there_is 1 (first ∷ after) (one_unit form (first / 256)) (omega arith)
    ∙ ap (λ i. Ok (i, 1)) (ap (one_unit form) h ∙ sym (laws.one_only form high insn s.1))
    ∙ ap (λ m. Ok (insn, 1 + length m)) (sym s.0)
opcode_only (Two form) first high more after insn h s =
    ap (λ m. of_opcode (Two form) (first ∷ m ++ after)) s.1
    ∙ there_is 2 (first ∷ s.0 ∷ after) (two_units form (first / 256) s.0) (omega arith)
    ∙ ap (λ i. Ok (i, 2)) (ap (λ a. two_units form a s.0) h ∙ sym (laws.two_only form high s.0 insn s.2))
    ∙ ap (λ m. Ok (insn, 1 + length m)) (sym s.1)
opcode_only (Three form) first high more after insn h s =
    ap (λ m. of_opcode (Three form) (first ∷ m ++ after)) s.2
    ∙ there_is 3 (first ∷ s.0 ∷ s.1 ∷ after) (three_units form (first / 256) s.0 s.1) (omega arith)
    ∙ ap (λ i. Ok (i, 3)) (ap (λ a. three_units form a s.0 s.1) h ∙ sym (laws.three_only form high s.0 s.1 insn s.3))
    ∙ ap (λ m. Ok (insn, 1 + length m)) (sym s.2)
opcode_only Five first high more after insn h s =
    ap (λ m. of_opcode Five (first ∷ m ++ after)) s.5
    ∙ there_is 5 (first ∷ s.0 ∷ s.1 ∷ s.2 ∷ s.3 ∷ after) (make.ConstLong (first / 256) (long_of s.0 s.1 s.2 s.3)) (omega arith)
    ∙ ap (λ i. Ok (i, 5)) (ap (λ a. make.ConstLong a (long_of s.0 s.1 s.2 s.3)) h ∙ ap (make.ConstLong high) (sym (laws.five_only s.0 s.1 s.2 s.3 s.4 s.6)) ∙ sym s.7)
    ∙ ap (λ m. Ok (insn, 1 + length m)) (sym s.5)
opcode_only (Listed form) first high more after insn h s =
    let only = laws.listed_only form high s.0 s.1 insn s.3 in
    let few : nat_lt 5 (high_half (first / 256)) ≡ false = few_of (first / 256) (omega (arith, only.0)) in
    ap (λ m. of_opcode (Listed form) (first ∷ m ++ after)) s.2
    ∙ ap (λ b. cond b (Err fault.Unused) (if_there 3 (first ∷ s.0 ∷ s.1 ∷ after) (listed_units form (first / 256) s.0 s.1))) few
    ∙ there_is 3 (first ∷ s.0 ∷ s.1 ∷ after) (listed_units form (first / 256) s.0 s.1) (omega arith)
    ∙ ap (λ i. Ok (i, 3)) (ap (λ a. listed_units form a s.0 s.1) h ∙ sym only.1)
    ∙ ap (λ m. Ok (insn, 1 + length m)) (sym s.2)
  where
    few_of : (a : ℕ) → high_half a ≤ 5 → nat_lt 5 (high_half a) ≡ false
    few_of a h = grind (arith, nat_tests)
opcode_only (Ranged form) first high more after insn h s =
    ap (λ m. of_opcode (Ranged form) (first ∷ m ++ after)) s.2
    ∙ there_is 3 (first ∷ s.0 ∷ s.1 ∷ after) (ranged_units form (first / 256) s.0 s.1) (omega arith)
    ∙ ap (λ i. Ok (i, 3)) (ap (λ a. ranged_units form a s.0 s.1) h ∙ sym (laws.ranged_only form high s.0 s.1 insn s.3))
    ∙ ap (λ m. Ok (insn, 1 + length m)) (sym s.2)
