use Rattle.std.proofs.Common.{◌≡◌, ℕ}
use Rattle.cc_meaning_script.specs.Listed.{capped}
use Rattle.cc_meaning_script.specs.Script.{method_at}
use Rattle.cc_script.proofs.Each.{EachTo}
use Rattle.cc_script.proofs.resolve.methods_of.Given as goal

abbrev pub invariant-loop-at : goal.invariant-loop-at
invariant-loop-at l = (n : ℕ) → l.number ≡ capped n → EachTo (method_at l.program l.class n) 0 l.at l.members l.methods
