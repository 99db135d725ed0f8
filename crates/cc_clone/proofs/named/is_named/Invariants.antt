use Rattle.std.proofs.Common.{◌≡◌, ◌↔◌, length}
use Rattle.cc_meaning_run.specs.Local.{utf8_of}
use Rattle.cc_clone.proofs.named.is_named.Given as goal

abbrev pub invariant-loop-rest : goal.invariant-loop-rest
invariant-loop-rest l = record {
  same : (l.left ≡ utf8_of l.rest) ↔ (l.fn.text ≡ utf8_of l.fn.units);
}

abbrev pub decreases-loop-rest : goal.decreases-loop-rest
decreases-loop-rest l = length l.rest
