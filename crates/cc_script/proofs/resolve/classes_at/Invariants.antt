use Rattle.cc_meaning_script.specs.Script.{class_at}
use Rattle.cc_script.proofs.Each.{EachTo}
use Rattle.cc_script.proofs.resolve.classes_at.Given as goal

abbrev pub invariant-loop-number : goal.invariant-loop-number
invariant-loop-number l = EachTo (class_at l.program) 0 l.number l.classes l.found
