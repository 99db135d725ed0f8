use Rattle.cc_items.proofs.Groups.{UlebLeft}
use Rattle.cc_items.proofs.numbers.uleb.Given as goal

abbrev pub invariant-loop-rest : goal.invariant-loop-rest
invariant-loop-rest l = UlebLeft l.bytes.items l.rest l.n

abbrev pub decreases-loop-rest : goal.decreases-loop-rest
decreases-loop-rest l = l.rest
