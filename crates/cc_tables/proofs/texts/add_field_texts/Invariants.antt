use Rattle.std.proofs.Common.{◌≡◌, ◌++◌, take}
use Rattle.std.specs.List.{flat_map}
use Rattle.cc_tables.specs.Needs.{field_texts}
use Rattle.cc_tables.proofs.texts.add_field_texts.Given as goal

abbrev pub invariant-loop-field : goal.invariant-loop-field
invariant-loop-field l = l.all ≡ l.initial.all ++ flat_map field_texts (take l.field-index l.fields)
