use Rattle.std.proofs.Common.{◌≡◌, take}
use Rattle.cc_built_in.specs.Listed.{members_listed}
use Rattle.cc_members.proofs.planned_built_in.names_of.Given as goal

abbrev pub invariant-loop-method : goal.invariant-loop-method
invariant-loop-method l = l.names ≡ members_listed (take l.method-index l.methods)
