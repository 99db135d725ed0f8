use Rattle.std.proofs.Common.{◌≡◌, ◌∷◌, map, take}
use Rattle.cc_meaning_builder.specs.Tables.{short_letter}
use Rattle.cc_tables.proofs.texts.short_of.Given as goal

abbrev pub invariant-loop-param : goal.invariant-loop-param
invariant-loop-param l = l.short ≡ short_letter l.method.result ∷ map short_letter (take l.param-index l.param-items)
