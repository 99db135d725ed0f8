use Rattle.std.proofs.Common.{◌≡◌, Some, None}
use Rattle.cc_meaning_builtin.specs.Calls.{returns, returns_object}
use Rattle.cc_builtin.specs.Parts.{printed_in}
use Rattle.cc_builtin.proofs.Ending.{printed_appends, no_printed_ends}
use Rattle.cc_builtin.proofs.argument.append_printed.Goals as goal

pub returns-in-Some-clause-ok : goal.returns-in-Some-clause-ok
unfolding returns_object returns
returns-in-Some-clause-ok c =
    let some : Some c.in-Some.units ≡ printed_in c.args.world.now.world.objects c.args.form c.args.value = rw c.in-Some.is at c.in_ok-units.ensures in
    printed_appends c.append.result c.args.form c.args.value c.args.id c.args.world.now _ c.in-Some.units some c.append.ensures.ok

pub returns-in-None-clause-ok : goal.returns-in-None-clause-ok
returns-in-None-clause-ok c =
    let none : None ≡ printed_in c.args.world.now.world.objects c.args.form c.args.value = rw c.in-None.is at c.in_ok-units.ensures in
    no_printed_ends c.args.form c.args.value _ c.args.world.now _ _ none
