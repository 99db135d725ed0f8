use Rattle.std.proofs.Common.{length}
use Rattle.cc_link.specs.declared.link.Sent.{Sent}
use Rattle.cc_pair.specs.Pairs.{Pair}
use Rattle.cc_pair.specs.Calls.{SendsPair}
use Rattle.cc_pair.proofs.pair_link.PairLink.put.Given as goal

-- what is answered from here is what is answered from the start
abbrev pub invariant-loop-happening : goal.invariant-loop-happening
invariant-loop-happening l = (answer : Sent) (q : Pair) → SendsPair l.self l.bytes answer q → SendsPair l.fn.self l.bytes answer q

abbrev pub decreases-loop-happening : goal.decreases-loop-happening
decreases-loop-happening l = length l.self.list
