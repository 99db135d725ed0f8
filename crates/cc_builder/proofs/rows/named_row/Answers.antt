use Rattle.std.proofs.Common.{sym, subst, ℕ}
use Rattle.cc_meaning_builder.specs.Named.{Means}
use Rattle.cc_builder.proofs.FoundRows.{found}
use Rattle.cc_builder.proofs.rows.named_row.Goals as goal

pub returns : goal.returns
returns c = λ known. subst (λ (number : ℕ). Means c.args.ids.now c.args.name.now number) (sym c.unwrap_or.ensures) (found c.args.ids.now c.args.name.now c.row_of.result (c.row_of.ensures known.tables) known)
