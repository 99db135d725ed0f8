use Rattle.cc_script.proofs.SeenLemmas.{SeenTo}
use Rattle.cc_script.proofs.repeats.free_members.Given as goal

abbrev pub invariant-loop-pair : goal.invariant-loop-pair
invariant-loop-pair l = SeenTo l.pair-index l.pairs l.seen
