use Rattle.std.proofs.Common.{take}
use Rattle.std.specs.List.{flat_map}
use Rattle.cc_tables.specs.Needs.{methods_in, IsMethodNamed}
use Rattle.cc_meaning_dex.specs.Classes.{EachPair}
use Rattle.cc_tables.proofs.needs.named_methods.Given as goal

abbrev pub invariant-loop-name : goal.invariant-loop-name
invariant-loop-name l = EachPair IsMethodNamed (flat_map methods_in (take l.name-index l.names)) l.all
