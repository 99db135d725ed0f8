use Rattle.std.proofs.Common.{◌≡◌, take}
use Rattle.cc_dex_writer.proofs.tables.copy_texts.Given as goal

abbrev pub invariant-loop-units : goal.invariant-loop-units
invariant-loop-units l = l.copy ≡ take l.units-index l.texts
