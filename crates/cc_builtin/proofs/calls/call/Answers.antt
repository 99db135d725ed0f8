use Rattle.cc_builtin.proofs.Ending.{uncalled, no_receiver, calls}
use Rattle.cc_builtin.proofs.calls.call.Goals as goal

pub returns-in_default-clause-ok : goal.returns-in_default-clause-ok
returns-in_default-clause-ok c = uncalled c.args.program.now c.args.method c.args.args.now c.args.world.now _ _ c.in_default.ensures

pub returns-in_default-split_first-clause-ok : goal.returns-in_default-split_first-clause-ok
returns-in_default-split_first-clause-ok c =
    no_receiver c.args.program.now c.args.method c.in-Some.does c.args.args.now c.args.world.now _ _ c.in-Some.ensures c.in_default-split_first.ensures.cases

pub returns-clause-ok : goal.returns-clause-ok
returns-clause-ok c =
    calls c.call_receiver.result c.args.program.now c.args.method c.in-Some.does c.args.args.now _ _ c.args.world.now _ c.in-Some.ensures c.in-Some-split_first.ensures.cases.0 c.call_receiver.ensures.ok
