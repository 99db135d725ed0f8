use Rattle.cc_owners.specs.Index.{AreAdded}
use Rattle.cc_owners.proofs.index.add_rows.Given as goal

abbrev pub invariant-loop-place : goal.invariant-loop-place
invariant-loop-place l = AreAdded l.definition l.place l.rows l.initial.all l.all
