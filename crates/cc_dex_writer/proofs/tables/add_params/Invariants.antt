use Rattle.std.proofs.Common.{take}
use Rattle.cc_meaning_dex.specs.Classes.{EachPair}
use Rattle.cc_dex_writer.specs.Items.{ParamsStand}
use Rattle.cc_dex_writer.specs.Section.{Adds}
use Rattle.cc_dex_writer.proofs.tables.add_params.Given as goal

abbrev pub invariant-loop-proto : goal.invariant-loop-proto
invariant-loop-proto l = Adds l.fn.section l.section (λ file. EachPair (ParamsStand file) l.offsets (take l.proto-index l.protos))
