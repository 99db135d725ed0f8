use Rattle.cc_plain.specs.Code.{scope_in}
use Rattle.cc_plain.proofs.InsnLemmas.{ReadsTo}
use Rattle.cc_plain.proofs.instructions.read_insns.Given as goal

abbrev pub invariant-loop-left : goal.invariant-loop-left
invariant-loop-left l = ReadsTo l.file (scope_in l.known) l.kind l.registers l.start l.count l.at l.left l.insns

abbrev pub decreases-loop-left : goal.decreases-loop-left
decreases-loop-left l = l.left
