-- What is left of a text behind brackets.
use Rattle.std.proofs.Common.{◌≡◌, ℕ, suc, ◌<◌, ◌+◌, ◌-◌, replicate, List, [], ◌∷◌, Some, None, ◌∙◌, ap, arith}
use Rattle.std.specs.Prelude.{option_and_then}
use Rattle.cc_units.proofs.Matches.{behind_both}
use Rattle.cc_units.specs.Matching.{without}

pub next_bracket : (n i : ℕ) (rest more : List ℕ) → i < n → without rest (91 ∷ []) ≡ Some more → without rest (replicate (n - i) 91) ≡ without more (replicate (n - (i + 1)) 91)
next_bracket n i rest more h left =
    let split : n - i ≡ suc (n - (i + 1)) = omega arith in
    rw (split) (behind_both rest (91 ∷ []) (replicate (n - (i + 1)) 91) ∙ ap (option_and_then (λ rest. without rest (replicate (n - (i + 1)) 91))) left)

pub no_bracket : (n i : ℕ) (rest : List ℕ) → i < n → without rest (91 ∷ []) ≡ None → without rest (replicate (n - i) 91) ≡ None
no_bracket n i rest h left =
    let split : n - i ≡ suc (n - (i + 1)) = omega arith in
    rw (split) (behind_both rest (91 ∷ []) (replicate (n - (i + 1)) 91) ∙ ap (option_and_then (λ rest. without rest (replicate (n - (i + 1)) 91))) left)
