use Rattle.std.proofs.Common.{◌≡◌, ◌++◌, take}
use Rattle.std.specs.List.{flat_map}
use Rattle.cc_meaning_builder.specs.Named.{method_names}
use Rattle.cc_tables.proofs.names.add_methods.Given as goal

abbrev pub invariant-loop-method : goal.invariant-loop-method
invariant-loop-method l = l.all ≡ l.initial.all ++ flat_map (method_names l.class) (take l.method-index l.methods)
