use Rattle.cc_meaning_program.specs.CodeSizes.{HasFewUnits}
use Rattle.cc_bodies.proofs.Loops.{EachBefore}
use Rattle.cc_bodies.proofs.sizes.methods_have_few_units.Given as goal

abbrev pub invariant-loop-method : goal.invariant-loop-method
invariant-loop-method l = EachBefore (HasFewUnits) l.methods l.method-index
