use Rattle.std.proofs.Common.{refl}
use Rattle.cc_meaning.specs.declared.file.RawClass.{RawClass}
use Rattle.cc_meaning_program.specs.CodeSizes.{MethodsHaveFewUnits}
use Rattle.cc_bodies.proofs.Loops.{item_there, each_more, each_all}
use Rattle.cc_bodies.proofs.sizes.classes_have_few_units.Goals as goal

pub returns-then-not-methods_have_few_units : goal.returns-then-not-methods_have_few_units
returns-then-not-methods_have_few_units c =
    let there = item_there c.args.classes.now c.loop-class.class-index c.class-item.result c.loop-class-test.true c.class-item.is in
    let says = (rw c.as_slice.ensures at c.methods_have_few_units.ensures) in
    let many = c.if-not-methods_have_few_units.true in
    (λ t. absurd cc, λ all. let few = says.1 (all c.loop-class.class-index c.class-item.result there) in absurd cc)

pub loop-class-preserved : goal.loop-class-preserved
loop-class-preserved c =
    let there = item_there c.args.classes.now c.loop-class.class-index c.class-item.result c.loop-class-test.true c.class-item.is in
    let says = (rw c.as_slice.ensures at c.methods_have_few_units.ensures) in
    each_more (λ (class : RawClass). MethodsHaveFewUnits class.methods) c.args.classes.now c.loop-class.class-index c.class-item.result there (says.0 c.if-not-methods_have_few_units.false) c.loop-class.invariant

pub returns : goal.returns
returns c = (λ t. each_all (λ (class : RawClass). MethodsHaveFewUnits class.methods) c.args.classes.now c.loop-class.class-index c.loop-class-test.false c.loop-class.invariant, λ all. refl)
