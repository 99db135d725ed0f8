use Rattle.cc_hierarchy.specs.Numbers.{AreFirstNumbers}
use Rattle.cc_hierarchy.proofs.numbers.numbers_of_texts.Given as goal

abbrev pub invariant-loop-text : goal.invariant-loop-text
invariant-loop-text l = AreFirstNumbers l.names l.ids.texts l.text-index l.numbers
