use Rattle.std.proofs.Common.{◌≡◌, ℕ, List, [], ◌∷◌, ◌++◌, Some, None}
use Rattle.cc_builtin.specs.Parts.{printed_in}
use Rattle.cc_builtin.proofs.Ending.{printed_tells, no_printed_ends, tells_same}
use Rattle.cc_builtin.proofs.argument.print_line.Goals as goal

pub returns-clause-ok : goal.returns-clause-ok
returns-clause-ok c =
    let some : Some c.in-Some.units ≡ printed_in c.args.world.now.world.objects c.args.form c.args.value = rw c.in-Some.is at c.in_ok-units.ensures in
    printed_tells c.tell.result c.args.form c.args.value (λ (units : List ℕ). units ++ 10 ∷ []) c.args.world.now _ c.in-Some.units some
    (tells_same c.tell.result c.push.new.self (c.in-Some.units ++ 10 ∷ []) c.args.world.now _ c.in_ok-push.ensures.ok c.tell.ensures.ok)

pub returns-in_default-clause-ok : goal.returns-in_default-clause-ok
returns-in_default-clause-ok c =
    let none : None ≡ printed_in c.args.world.now.world.objects c.args.form c.args.value = rw c.in_default.is at c.in_ok-units.ensures in
    λ m. no_printed_ends c.args.form c.args.value _ c.args.world.now _ _ none
