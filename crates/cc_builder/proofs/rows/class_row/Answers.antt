use Rattle.std.proofs.Common.{sym, subst, ℕ}
use Rattle.cc_meaning.specs.declared.listing.RowName.TheVariants as row
use Rattle.cc_meaning_builder.specs.Named.{Means}
use Rattle.cc_builder.proofs.FoundRows.{found, types_rise}
use Rattle.cc_builder.proofs.rows.class_row.Goals as goal

pub type_row-requires : goal.type_row-requires
type_row-requires c = types_rise c.args.ids.now c.requires.few c.requires.ordered

pub returns : goal.returns
returns c = λ known. subst (λ (number : ℕ). Means c.args.ids.now (row.Class c.args.name.now) number) (sym c.unwrap_or.ensures) (found c.args.ids.now (row.Class c.args.name.now) c.type_row.result (c.type_row.ensures.fit known.tables.types) known)
