use Rattle.cc_program.proofs.Holding.{AreHeldTo}
use Rattle.cc_program.proofs.values.values.Given as goal

abbrev pub invariant-loop-number : goal.invariant-loop-number
invariant-loop-number l = AreHeldTo l.fields l.plans l.listed l.texts l.own l.number-index l.kept l.values
