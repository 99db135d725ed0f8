use Rattle.cc_hierarchy.specs.Numbers.{AreFirstOutlines}
use Rattle.cc_hierarchy.proofs.classes.outlines.Given as goal

abbrev pub invariant-loop-name : goal.invariant-loop-name
invariant-loop-name l = AreFirstOutlines l.ids l.names l.name-index l.outlines
