use Rattle.std.proofs.Common.{◌≡◌, ◌++◌, take}
use Rattle.cc_members.specs.Candidates.{outside_plans}
use Rattle.cc_members.proofs.planned_methods.add_outside.Given as goal

abbrev pub invariant-loop-used : goal.invariant-loop-used
invariant-loop-used l = l.all ≡ l.fn.all ++ outside_plans l.owners (take l.used-index l.uses)
