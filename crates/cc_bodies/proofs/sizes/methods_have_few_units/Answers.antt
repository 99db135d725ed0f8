use Rattle.std.proofs.Common.{refl}
use Rattle.cc_meaning_program.specs.CodeSizes.{HasFewUnits}
use Rattle.cc_bodies.proofs.Loops.{item_there, each_more, each_all}
use Rattle.cc_bodies.proofs.sizes.methods_have_few_units.Goals as goal

pub returns-then-not-has_few_units : goal.returns-then-not-has_few_units
returns-then-not-has_few_units c =
    let there = item_there c.args.methods.now c.loop-method.method-index c.method-item.result c.loop-method-test.true c.method-item.is in
    let says = c.has_few_units.ensures in
    let many = c.if-not-has_few_units.true in
    (λ t. absurd cc, λ all. let few = says.1 (all c.loop-method.method-index c.method-item.result there) in absurd cc)

pub loop-method-preserved : goal.loop-method-preserved
loop-method-preserved c =
    let there = item_there c.args.methods.now c.loop-method.method-index c.method-item.result c.loop-method-test.true c.method-item.is in
    let says = c.has_few_units.ensures in
    each_more (HasFewUnits) c.args.methods.now c.loop-method.method-index c.method-item.result there (says.0 c.if-not-has_few_units.false) c.loop-method.invariant

pub returns : goal.returns
returns c = (λ t. each_all (HasFewUnits) c.args.methods.now c.loop-method.method-index c.loop-method-test.false c.loop-method.invariant, λ all. refl)
