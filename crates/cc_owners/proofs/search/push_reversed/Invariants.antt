use Rattle.std.proofs.Common.{◌≡◌, ◌-◌, ◌++◌, length, take}
use Rattle.std.specs.Prelude.{reverse}
use Rattle.cc_owners.proofs.search.push_reversed.Given as goal

abbrev pub invariant-loop-back : goal.invariant-loop-back
invariant-loop-back l = l.stack ++ reverse (take (length l.classes - l.back) l.classes) ≡ l.initial.stack ++ reverse l.classes
