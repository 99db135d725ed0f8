use Rattle.std.proofs.Common.{sym, subst, ℕ}
use Rattle.cc_meaning.specs.declared.listing.RowName.TheVariants as row
use Rattle.cc_meaning_builder.specs.Named.{Means}
use Rattle.cc_builder.proofs.FoundRows.{found, texts_rise}
use Rattle.cc_builder.proofs.rows.text_row.Goals as goal

pub text_row-requires : goal.text_row-requires
text_row-requires c = texts_rise c.args.ids.now c.requires.few c.requires.ordered

pub returns : goal.returns
returns c = λ known. subst (λ (number : ℕ). Means c.args.ids.now (row.Text c.args.units.now) number) (sym c.unwrap_or.ensures) (found c.args.ids.now (row.Text c.args.units.now) c.text_row.result c.text_row.ensures known)
