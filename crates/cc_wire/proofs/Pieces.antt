-- Bytes that are put piece by piece.
use Rattle.std.proofs.Common.{◌≡◌, ℕ, List, ◌++◌, Result, ap, ◌∙◌, append_assoc}
use Rattle.std.specs.Result.{OnOk}
use Rattle.std.proofs.lemmas.Result.{on_ok_weaker}

-- a piece, and behind it the others
pub and_then : {T E : Type 0} {middle : List ℕ} (r : Result T E) (old piece more new : List ℕ) → middle ≡ old ++ piece → OnOk r (new ≡ middle ++ more) → OnOk r (new ≡ old ++ (piece ++ more))
and_then r old piece more new first = on_ok_weaker r (λ others. others ∙ ap (λ (bytes : List ℕ). bytes ++ more) first ∙ append_assoc old piece more)
