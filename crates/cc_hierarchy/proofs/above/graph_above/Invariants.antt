use Rattle.cc_hierarchy.proofs.Extending.{ShownTo}
use Rattle.cc_hierarchy.proofs.above.graph_above.Given as goal

abbrev pub invariant-loop-stated : goal.invariant-loop-stated
invariant-loop-stated l = ShownTo l.ids l.graph l.stated-index
