use Rattle.cc_verify.specs.Verdicts.{AreClear}
use Rattle.cc_verify.proofs.verdict.first_fault.Given as goal

abbrev pub invariant-loop-number : goal.invariant-loop-number
invariant-loop-number l = AreClear l.program l.number
