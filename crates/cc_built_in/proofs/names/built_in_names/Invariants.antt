use Rattle.std.proofs.Common.{◌≡◌, map, take}
use Rattle.cc_built_in.specs.declared.table.ListedClass.{ListedClass}
use Rattle.cc_built_in.proofs.names.built_in_names.Given as goal

abbrev pub invariant-loop-class : goal.invariant-loop-class
invariant-loop-class l = l.names ≡ map (λ (class : ListedClass). class.name.now) (take l.class-index l.class-items)
