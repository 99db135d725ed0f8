use Rattle.std.proofs.Common.{◌≡◌, ◌++◌, replicate}
use Rattle.cc_world.proofs.opening.add_descriptor.Given as goal

abbrev pub invariant-loop : goal.invariant-loop
invariant-loop l = l.name ≡ l.initial.name ++ replicate l.counter 91
