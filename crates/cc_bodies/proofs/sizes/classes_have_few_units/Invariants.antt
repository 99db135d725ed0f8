use Rattle.cc_meaning.specs.declared.file.RawClass.{RawClass}
use Rattle.cc_meaning_program.specs.CodeSizes.{MethodsHaveFewUnits}
use Rattle.cc_bodies.proofs.Loops.{EachBefore}
use Rattle.cc_bodies.proofs.sizes.classes_have_few_units.Given as goal

abbrev pub invariant-loop-class : goal.invariant-loop-class
invariant-loop-class l = EachBefore (λ (class : RawClass). MethodsHaveFewUnits class.methods) l.classes l.class-index
