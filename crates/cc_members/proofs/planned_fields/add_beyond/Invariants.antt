use Rattle.std.proofs.Common.{◌≡◌, ◌++◌, take}
use Rattle.cc_members.specs.Candidates.{beyond_fields}
use Rattle.cc_members.proofs.planned_fields.add_beyond.Given as goal

abbrev pub invariant-loop-row : goal.invariant-loop-row
invariant-loop-row l = l.all ≡ l.fn.all ++ beyond_fields l.owners (take l.row-index l.rows)
