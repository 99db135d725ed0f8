use Rattle.std.proofs.Common.{ap}
use Rattle.cc_meaning.specs.declared.fault.ProgramFault.TheVariants as faults
use Rattle.cc_meaning_program.specs.BodyFaults.{MethodFault}
use Rattle.cc_bodies.proofs.Loops.{none_more, first_here, none_has, item_there}
use Rattle.cc_bodies.proofs.bodies.judge_methods.Goals as goal

pub returns-then-method_floats : goal.returns-then-method_floats
returns-then-method_floats c = λ real. first_here (MethodFault c.args.ids.now) c.args.methods.now c.loop-method.method-index _ _ (item_there c.args.methods.now c.loop-method.method-index c.method-item.result c.loop-method-test.true c.method-item.is) c.loop-method.invariant
    (record { floats = c.method_floats.ensures.0 c.if-method_floats.true; named = ap faults.FloatMember c.in_ok-name.ensures })

pub loop-method-preserved : goal.loop-method-preserved
loop-method-preserved c = none_more (MethodFault c.args.ids.now) c.args.methods.now c.loop-method.method-index _ (item_there c.args.methods.now c.loop-method.method-index c.method-item.result c.loop-method-test.true c.method-item.is) (λ fault f. let says = c.method_floats.ensures.1 f.floats in let not = c.if-method_floats.false in absurd cc) c.loop-method.invariant

pub returns : goal.returns
returns c = none_has (MethodFault c.args.ids.now) c.args.methods.now c.loop-method.method-index c.loop-method-test.false c.loop-method.invariant
