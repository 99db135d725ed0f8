use Rattle.std.proofs.Common.{◌≡◌, take}
use Rattle.std.specs.List.{flat_map}
use Rattle.cc_tables.specs.Needs.{classes_in}
use Rattle.cc_tables.proofs.needs.named_classes.Given as goal

abbrev pub invariant-loop-name : goal.invariant-loop-name
invariant-loop-name l = l.all ≡ flat_map classes_in (take l.name-index l.names)
