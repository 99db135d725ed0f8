use Rattle.std.proofs.Common.{◌≡◌, ◌+◌, ℕ}
use Rattle.cc_meaning_script.specs.Listed.{capped}
use Rattle.cc_meaning_script.specs.Script.{given_at}
use Rattle.cc_script.proofs.Each.{EachTo}
use Rattle.cc_script.proofs.resolve.givens_of.Given as goal

abbrev pub invariant-loop-at : goal.invariant-loop-at
invariant-loop-at l =
    (n start : ℕ) → l.from.0 ≡ capped n → ((at : ℕ) → capped (l.from.1 + at) ≡ capped (start + at)) → EachTo (given_at l.program l.class n) start l.at l.pairs l.givens
