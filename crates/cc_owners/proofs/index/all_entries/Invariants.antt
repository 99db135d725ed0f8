use Rattle.cc_owners.specs.Index.{AreGathered}
use Rattle.cc_owners.proofs.index.all_entries.Given as goal

abbrev pub invariant-loop-definition : goal.invariant-loop-definition
invariant-loop-definition l = AreGathered l.classes l.table l.definition l.all
