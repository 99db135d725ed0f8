use Rattle.std.proofs.Common.{◌≡◌, ◌++◌, take}
use Rattle.std.specs.List.{flat_map}
use Rattle.cc_tables.specs.Needs.{method_texts}
use Rattle.cc_tables.proofs.texts.add_method_texts.Given as goal

abbrev pub invariant-loop-method : goal.invariant-loop-method
invariant-loop-method l = l.all ≡ l.initial.all ++ flat_map method_texts (take l.method-index l.methods)
