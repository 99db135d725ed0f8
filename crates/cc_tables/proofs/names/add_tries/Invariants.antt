use Rattle.std.proofs.Common.{◌≡◌, ◌++◌, take}
use Rattle.std.specs.List.{flat_map}
use Rattle.cc_meaning_builder.specs.Named.{try_names}
use Rattle.cc_tables.proofs.names.add_tries.Given as goal

abbrev pub invariant-loop-entry : goal.invariant-loop-entry
invariant-loop-entry l = l.all ≡ l.initial.all ++ flat_map try_names (take l.entry-index l.tries)
