use Rattle.cc_meaning_program.specs.Named.{type_name}
use Rattle.cc_names.specs.Types.{AreTypesOf}
use Rattle.cc_names.proofs.types.types_of_rows.Given as goal

abbrev pub invariant-loop-text : goal.invariant-loop-text
invariant-loop-text l = AreTypesOf l.names l.text-index (type_name l.ids) l.types
