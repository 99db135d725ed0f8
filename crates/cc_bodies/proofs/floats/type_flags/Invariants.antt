use Rattle.cc_meaning_program.specs.Named.{type_name}
use Rattle.cc_meaning_program.specs.References.{IsFloating}
use Rattle.cc_bodies.proofs.FloatLemmas.{FlagsBefore}
use Rattle.cc_bodies.proofs.floats.type_flags.Given as goal

abbrev pub invariant-loop-text : goal.invariant-loop-text
invariant-loop-text l = FlagsBefore (λ row. IsFloating (type_name l.ids row)) l.flags l.text-index
