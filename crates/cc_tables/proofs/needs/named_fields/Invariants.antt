use Rattle.std.proofs.Common.{◌≡◌, take}
use Rattle.std.specs.List.{flat_map}
use Rattle.cc_tables.specs.Needs.{fields_in}
use Rattle.cc_tables.proofs.needs.named_fields.Given as goal

abbrev pub invariant-loop-name : goal.invariant-loop-name
invariant-loop-name l = l.all ≡ flat_map fields_in (take l.name-index l.names)
