use Rattle.std.proofs.Common.{length}
use Rattle.cc_link.specs.declared.link.Got.{Got}
use Rattle.cc_pair.specs.Pairs.{Pair}
use Rattle.cc_pair.specs.Calls.{GetsPair}
use Rattle.cc_pair.proofs.pair_link.PairLink.get.Given as goal

-- what is answered from here is what is answered from the start
abbrev pub invariant-loop-self : goal.invariant-loop-self
invariant-loop-self l = (got : Got) (q : Pair) → GetsPair l.self l.room got q → GetsPair l.fn.self l.room got q

abbrev pub decreases-loop-self : goal.decreases-loop-self
decreases-loop-self l = length l.self.list
