use Rattle.std.proofs.Common.{◌≡◌, ◌≤◌, ◌*◌, take}
use Rattle.cc_check.specs.Summaries.{units_of_methods}
use Rattle.cc_check.proofs.summary.units_of_methods.Given as goal

abbrev pub invariant-loop-method : goal.invariant-loop-method
invariant-loop-method l = (l.units ≡ units_of_methods (take l.method-index l.methods)) × (l.units ≤ l.method-index * 4294967295)
