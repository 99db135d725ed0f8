use Rattle.std.proofs.Common.{◌≡◌, drop}
use Rattle.cc_meaning_dex.specs.Classes.{classes_from}
use Rattle.cc_dexcode.proofs.Parts.{with_front}
use Rattle.cc_dexcode.proofs.classes.read_each.Given as goal

abbrev pub invariant-loop-number : goal.invariant-loop-number
invariant-loop-number l = with_front l.classes (classes_from l.file l.ids l.number (drop l.number l.definitions)) ≡ classes_from l.file l.ids 0 l.definitions
