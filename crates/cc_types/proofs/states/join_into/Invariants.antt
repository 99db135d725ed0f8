use Rattle.cc_types.proofs.Joined.{Joined}
use Rattle.cc_types.proofs.states.join_into.Given as goal

abbrev pub invariant-loop-at : goal.invariant-loop-at
invariant-loop-at l = Joined l.program l.initial.registers l.other l.at l.registers l.unchanged
