use Rattle.std.proofs.Common.{take}
use Rattle.cc_meaning_dex.specs.Classes.{EachPair}
use Rattle.cc_meaning_dex.specs.Texts.{SpellsText}
use Rattle.cc_dex_writer.specs.Section.{Adds}
use Rattle.cc_dex_writer.proofs.tables.add_texts.Given as goal

abbrev pub invariant-loop-units : goal.invariant-loop-units
invariant-loop-units l = Adds l.fn.section l.section (λ file. EachPair (SpellsText file) l.offsets (take l.units-index l.texts))
