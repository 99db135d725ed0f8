use Rattle.std.proofs.Common.{take}
use Rattle.std.specs.List.{flat_map}
use Rattle.cc_meaning_dex.specs.Classes.{EachPair}
use Rattle.cc_meaning_builder.specs.Members.{IsRawTry}
use Rattle.cc_meaning_builder.specs.Named.{try_names}
use Rattle.cc_builder.specs.Known.{AreKnown}
use Rattle.cc_builder.proofs.catches.raw_tries.Given as goal

abbrev pub invariant-loop-listed : goal.invariant-loop-listed
invariant-loop-listed l = AreKnown l.ids (flat_map try_names l.tries) → EachPair (IsRawTry l.ids) (take l.listed-index l.tries) l.made
