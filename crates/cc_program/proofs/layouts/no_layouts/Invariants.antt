use Rattle.std.proofs.Common.{◌≡◌, None, replicate}
use Rattle.cc_program.proofs.layouts.no_layouts.Given as goal

abbrev pub invariant-loop : goal.invariant-loop
invariant-loop l = l.layouts ≡ replicate l.counter None
