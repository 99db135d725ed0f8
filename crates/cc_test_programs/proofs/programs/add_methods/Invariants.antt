use Rattle.std.proofs.Common.{◌≡◌, length}
use Rattle.cc_test_programs.proofs.programs.add_methods.Given as goal

abbrev pub invariant-loop-method : goal.invariant-loop-method
invariant-loop-method l = length l.builder ≡ length l.initial.builder
