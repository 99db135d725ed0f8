use Rattle.std.proofs.Common.{take}
use Rattle.std.specs.List.{flat_map}
use Rattle.cc_meaning_dex.specs.Classes.{EachPair}
use Rattle.cc_meaning_builder.specs.Named.{method_names}
use Rattle.cc_builder.specs.Known.{AreKnown}
use Rattle.cc_builder.specs.Placed.{IsPlacedMethod}
use Rattle.cc_builder.proofs.methods.placed_methods.Given as goal

abbrev pub invariant-loop-method : goal.invariant-loop-method
invariant-loop-method l = AreKnown l.ids (flat_map (method_names l.class) l.methods) → EachPair (IsPlacedMethod l.ids l.class) (take l.method-index l.methods) l.placed
