use Rattle.std.proofs.Common.{◌≡◌, ℕ, List, Some, None}
use Rattle.cc_builtin.specs.Parts.{printed_in}
use Rattle.cc_builtin.proofs.Ending.{printed_tells, no_printed_ends}
use Rattle.cc_builtin.proofs.argument.print.Goals as goal

pub returns-in-Some-clause-ok : goal.returns-in-Some-clause-ok
returns-in-Some-clause-ok c =
    let some : Some c.in-Some.units ≡ printed_in c.args.world.now.world.objects c.args.form c.args.value = rw c.in-Some.is at c.in_ok-units.ensures in
    printed_tells c.tell.result c.args.form c.args.value (λ (units : List ℕ). units) c.args.world.now _ c.in-Some.units some c.tell.ensures.ok

pub returns-in-None-clause-ok : goal.returns-in-None-clause-ok
returns-in-None-clause-ok c =
    let none : None ≡ printed_in c.args.world.now.world.objects c.args.form c.args.value = rw c.in-None.is at c.in_ok-units.ensures in
    λ m. no_printed_ends c.args.form c.args.value _ c.args.world.now _ _ none
