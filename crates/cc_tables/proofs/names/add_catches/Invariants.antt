use Rattle.std.proofs.Common.{◌≡◌, ◌++◌, take}
use Rattle.std.specs.List.{flat_map}
use Rattle.cc_meaning_builder.specs.Named.{catch_names}
use Rattle.cc_tables.proofs.names.add_catches.Given as goal

abbrev pub invariant-loop-catch : goal.invariant-loop-catch
invariant-loop-catch l = l.all ≡ l.initial.all ++ flat_map catch_names (take l.catch-index l.catches)
