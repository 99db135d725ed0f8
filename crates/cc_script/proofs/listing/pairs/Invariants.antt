use Rattle.cc_meaning_script.specs.Listed.{pair_of}
use Rattle.cc_script.proofs.Values.{Collected}
use Rattle.cc_script.proofs.listing.pairs.Given as goal

abbrev pub invariant-loop-item : goal.invariant-loop-item
invariant-loop-item l = Collected pair_of l.items l.item-index l.pairs
