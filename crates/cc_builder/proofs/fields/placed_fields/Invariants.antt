use Rattle.std.proofs.Common.{take}
use Rattle.std.specs.List.{flat_map}
use Rattle.cc_meaning_dex.specs.Classes.{EachPair}
use Rattle.cc_meaning_builder.specs.Named.{field_names}
use Rattle.cc_builder.specs.Known.{AreKnown}
use Rattle.cc_builder.specs.Placed.{IsPlacedField}
use Rattle.cc_builder.proofs.fields.placed_fields.Given as goal

abbrev pub invariant-loop-field : goal.invariant-loop-field
invariant-loop-field l = AreKnown l.ids (flat_map (field_names l.class) l.fields) → EachPair (IsPlacedField l.ids l.class) (take l.field-index l.fields) l.placed
