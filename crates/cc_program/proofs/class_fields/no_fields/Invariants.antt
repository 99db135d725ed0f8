use Rattle.std.proofs.Common.{◌≡◌, [], replicate}
use Rattle.cc_program.proofs.class_fields.no_fields.Given as goal

abbrev pub invariant-loop : goal.invariant-loop
invariant-loop l = l.lists ≡ replicate l.counter []
