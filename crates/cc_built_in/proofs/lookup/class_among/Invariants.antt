use Rattle.std.proofs.Common.{◌≡◌, find, drop}
use Rattle.std.specs.Str.{bytes_eq}
use Rattle.cc_built_in.specs.declared.table.ListedClass.{ListedClass}
use Rattle.cc_built_in.proofs.lookup.class_among.Given as goal

abbrev pub invariant-loop-class : goal.invariant-loop-class
invariant-loop-class l = find (λ (class : ListedClass). bytes_eq class.name.now l.name) l.classes ≡ find (λ (class : ListedClass). bytes_eq class.name.now l.name) (drop l.class-index l.classes)
