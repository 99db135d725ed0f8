use Rattle.cc_meaning_program.specs.Named.{text_of}
use Rattle.cc_names.specs.Types.{AreTypesOf}
use Rattle.cc_names.proofs.types.types_of_texts.Given as goal

abbrev pub invariant-loop-text : goal.invariant-loop-text
invariant-loop-text l = AreTypesOf l.names l.text-index (text_of l.ids) l.types
