use Rattle.std.proofs.Common.{take}
use Rattle.cc_names.specs.Numbers.{AreNumbers}
use Rattle.cc_names.proofs.listed.numbers_of_texts.Given as goal

abbrev pub invariant-loop-text : goal.invariant-loop-text
invariant-loop-text l = AreNumbers l.texts (take l.text-index l.ids.texts) l.numbers
