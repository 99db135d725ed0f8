use Rattle.std.proofs.Common.{◌≡◌, Some, None}
use Rattle.cc_builtin.specs.Parts.{copy_at}
use Rattle.cc_builtin.proofs.Ending.{cloned_ends, no_copy_ends}
use Rattle.cc_builtin.proofs.receiver.clone_array.Goals as goal

pub returns-in-Some-clause-ok : goal.returns-in-Some-clause-ok
returns-in-Some-clause-ok c =
    let some : Some c.in-Some.object ≡ copy_at c.args.world.now.world.objects c.args.id = rw c.in-Some.is at c.in_ok-object.ensures.object in
    cloned_ends c.give.result c.args.id c.args.world.now _ c.in-Some.object some c.give.ensures.ok

pub returns-in-None-clause-ok : goal.returns-in-None-clause-ok
returns-in-None-clause-ok c =
    let none : None ≡ copy_at c.args.world.now.world.objects c.args.id = rw c.in-None.is at c.in_ok-object.ensures.object in
    no_copy_ends c.args.id _ c.args.world.now _ _ none
