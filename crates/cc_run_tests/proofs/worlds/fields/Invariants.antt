use Rattle.std.proofs.Common.{◌≡◌, length}
use Rattle.cc_run_tests.proofs.worlds.fields.Given as goal

abbrev pub invariant-loop-class : goal.invariant-loop-class
invariant-loop-class l = length l.fields ≡ l.class-index
