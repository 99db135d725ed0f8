use Rattle.std.proofs.Common.{take}
use Rattle.std.specs.List.{flat_map}
use Rattle.cc_meaning_dex.specs.Classes.{EachPair}
use Rattle.cc_meaning_builder.specs.Members.{IsRawCatch}
use Rattle.cc_meaning_builder.specs.Named.{catch_names}
use Rattle.cc_builder.specs.Known.{AreKnown}
use Rattle.cc_builder.proofs.catches.raw_catches.Given as goal

abbrev pub invariant-loop-catch : goal.invariant-loop-catch
invariant-loop-catch l = AreKnown l.ids (flat_map catch_names l.catches) → EachPair (IsRawCatch l.ids) (take l.catch-index l.catches) l.made
