use Rattle.std.proofs.Common.{◌≡◌, length}
use Rattle.cc_test_programs.proofs.programs.add_fields.Given as goal

abbrev pub invariant-loop-field : goal.invariant-loop-field
invariant-loop-field l = length l.builder ≡ length l.initial.builder
