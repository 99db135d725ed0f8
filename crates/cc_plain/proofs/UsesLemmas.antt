-- The check of uses, from its start on.
use Rattle.std.proofs.Common.{◌≡◌, ◌≤◌, ℕ, zero, suc, ◌-◌, List, [], ◌∷◌, ◌++◌, length, take, replicate, slice_set, refl, subst, ap, ◌∙◌, ◌↔◌, arith}
use Rattle.std.proofs.lemmas.List.{take-replicate, length-replicate}
use Rattle.cc_meaning_plain.specs.declared.plain.PlainInsn.{PlainInsn}
use Rattle.cc_meaning_plain.specs.declared.plain.Last.{Last}
use Rattle.cc_meaning_plain.specs.declared.plain.Last.TheVariants.{ReturnVoid, Return}
use Rattle.cc_meaning_plain.specs.declared.plain.Held.{Held}
use Rattle.cc_meaning_plain.specs.declared.plain.Held.TheVariants.{Nothing, Number}
use Rattle.cc_meaning_plain.specs.Code.{held_at_first, UsesWhatIsSet}
use Rattle.cc_plain.specs.Uses.{held_with_argument}

set_last : (k : ℕ) → slice_set (replicate (suc k) Nothing) k Number ≡ replicate k Nothing ++ Number ∷ []
set_last zero = refl
set_last (suc k) = ap (λ held. Nothing ∷ held) (set_last k)

set_last_of : (registers : ℕ) → 1 ≤ registers → slice_set (replicate registers Nothing) (length (replicate registers Nothing) - 1) Number ≡ replicate (registers - 1) Nothing ++ Number ∷ []
set_last_of zero some = absurd (omega arith)
set_last_of (suc k) some =
    let place : length (replicate (suc k) Nothing) - 1 ≡ k = omega (arith, length-replicate (suc k) Nothing) in
    let back : k ≡ suc k - 1 = omega arith in
    ap (λ i. slice_set (replicate (suc k) Nothing) i Number) place ∙ (set_last k ∙ ap (λ n. replicate n Nothing ++ Number ∷ []) back)

-- the first of sixteen registers hold nothing but the argument, as all of so many do
held_first : (registers : ℕ) (last : Last) (held : List Held) → 1 ≤ registers → held ≡ replicate registers Nothing → held_with_argument held last ≡ held_at_first last registers
held_first registers ReturnVoid held some e = e
held_first registers (Return from) held some e = ap (λ xs. slice_set xs (length xs - 1) Number) e ∙ set_last_of registers some

pub uses_start : (n registers : ℕ) (last : Last) (insns : List PlainInsn) → n ≡ registers → 1 ≤ registers → registers ≤ 16 →
    UsesWhatIsSet last (held_with_argument (take n (replicate 16 Nothing)) last) insns ↔ UsesWhatIsSet last (held_at_first last registers) insns
uses_start n registers last insns e some few =
    let at_start : take n (replicate 16 Nothing) ≡ replicate registers Nothing = take-replicate n 16 Nothing (omega arith) ∙ ap (λ k. replicate k Nothing) e in
    let with_argument = held_first registers last (take n (replicate 16 Nothing)) some at_start in
    subst (λ held. UsesWhatIsSet last (held_with_argument (take n (replicate 16 Nothing)) last) insns ↔ UsesWhatIsSet last held insns) with_argument (λ h. h, λ h. h)
