use Rattle.std.proofs.Common.{◌≡◌, map, take}
use Rattle.cc_meaning_program.specs.Named.{text_of}
use Rattle.cc_names.proofs.listed.texts.Given as goal

abbrev pub invariant-loop-row : goal.invariant-loop-row
invariant-loop-row l = l.texts ≡ map (text_of l.ids) (take l.row-index l.row-items)
