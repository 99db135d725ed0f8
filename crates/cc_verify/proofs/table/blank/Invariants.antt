use Rattle.std.specs.Prelude.{◌≡◌, None, replicate}
use Rattle.cc_verify.proofs.table.blank.Given as goal

abbrev pub invariant-loop-at : goal.invariant-loop-at
invariant-loop-at l = l.states ≡ replicate l._at None
