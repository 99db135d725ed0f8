use Rattle.std.proofs.Common.{◌≡◌, length}
use Rattle.cc_test_programs.proofs.programs.add_interfaces.Given as goal

abbrev pub invariant-loop-interface : goal.invariant-loop-interface
invariant-loop-interface l = length l.builder ≡ length l.initial.builder
