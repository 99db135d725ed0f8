use Rattle.std.proofs.Common.{◌≡◌, ◌++◌, map, take}
use Rattle.cc_meaning_program.specs.Named.{type_name}
use Rattle.cc_meaning_builder.specs.Tables.{short_letter}
use Rattle.cc_dex_writer.proofs.tables.add_letters.Given as goal

abbrev pub invariant-loop-row : goal.invariant-loop-row
invariant-loop-row l = l.short ≡ l.fn.short ++ map (λ type. short_letter (type_name l.ids type)) (take l.row-index l.rows)
