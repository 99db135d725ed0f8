use Rattle.std.proofs.Common.{◌≡◌, replicate}
use Rattle.cc_meaning.specs.declared.value.Cell.TheVariants.{Unset}
use Rattle.cc_thread.proofs.thread.unset.Given as goal

abbrev pub invariant-loop : goal.invariant-loop
invariant-loop l = l.cells ≡ replicate l.counter Unset
