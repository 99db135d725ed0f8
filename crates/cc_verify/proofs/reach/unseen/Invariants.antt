use Rattle.std.specs.Prelude.{◌≡◌, false, replicate}
use Rattle.cc_verify.proofs.reach.unseen.Given as goal

abbrev pub invariant-loop-at : goal.invariant-loop-at
invariant-loop-at l = l.seen ≡ replicate l._at false
