-- The parts of what is held: the bytes before the payload, and the payload.
use Rattle.std.proofs.Common.{◌≡◌, ◌<◌, ◌≤◌, List, ℕ, [], ◌++◌, length, take, drop, sym, ap, ◌∙◌, inl, inr, arith}
use Rattle.std.proofs.lemmas.Bool.{cases_lt}
use Rattle.std.proofs.lemmas.List.{append-nil, take_at, drop_at}

full : (a b : List ℕ) → (length a < 25 → b ≡ []) → length a ≤ 25 → 25 ≤ length (a ++ b) → 25 ≡ length a
full a b none few many =
    elim (cases_lt (length a) 25) [
      | inl lt ↦ let e : a ++ b ≡ a = ap (λ (ys : List ℕ). a ++ ys) (none lt) ∙ append-nil a in absurd (omega (arith, ap length e))
      | inr le ↦ omega arith
    ]

pub prelude_is : (a b : List ℕ) → (length a < 25 → b ≡ []) → length a ≤ 25 → 25 ≤ length (a ++ b) → take 25 (a ++ b) ≡ a
prelude_is a b none few many = take_at a b 25 (sym (full a b none few many))

pub payload_is : (a b : List ℕ) → (length a < 25 → b ≡ []) → length a ≤ 25 → 25 ≤ length (a ++ b) → drop 25 (a ++ b) ≡ b
payload_is a b none few many = drop_at a b 25 (sym (full a b none few many))
