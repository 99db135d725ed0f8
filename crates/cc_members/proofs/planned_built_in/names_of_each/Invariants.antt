use Rattle.std.proofs.Common.{◌≡◌, map, take}
use Rattle.cc_built_in.specs.Listed.{members_listed}
use Rattle.cc_built_in.specs.declared.table.ListedClass.{ListedClass}
use Rattle.cc_members.proofs.planned_built_in.names_of_each.Given as goal

abbrev pub invariant-loop-class : goal.invariant-loop-class
invariant-loop-class l = l.names ≡ map (λ (class : ListedClass). members_listed class.methods.now) (take l.class-index l.classes)
