use Rattle.std.proofs.Common.{take}
use Rattle.cc_meaning_dex.specs.Classes.{EachPair}
use Rattle.cc_dex_writer.specs.Items.{InterfacesStand}
use Rattle.cc_dex_writer.specs.Section.{Adds}
use Rattle.cc_dex_writer.proofs.tables.add_interfaces.Given as goal

abbrev pub invariant-loop-class : goal.invariant-loop-class
invariant-loop-class l = Adds l.fn.section l.section (λ file. EachPair (InterfacesStand file) l.offsets (take l.class-index l.classes))
