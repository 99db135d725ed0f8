use Rattle.std.proofs.Common.{◌≡◌, ◌++◌, take}
use Rattle.std.specs.List.{flat_map}
use Rattle.cc_meaning_builder.specs.Named.{field_names}
use Rattle.cc_tables.proofs.names.add_fields.Given as goal

abbrev pub invariant-loop-field : goal.invariant-loop-field
invariant-loop-field l = l.all ≡ l.initial.all ++ flat_map (field_names l.class) (take l.field-index l.fields)
