use Rattle.std.proofs.Common.{◌≤◌}
use Rattle.cc_plain.proofs.NumberLemmas.{ListsTo}
use Rattle.cc_plain.proofs.members.read_members.Given as goal

abbrev pub invariant-loop : goal.invariant-loop
invariant-loop l = (l.counter ≤ l.count) × ListsTo l.file l.start l.count l.place l.row l.counter l.members
