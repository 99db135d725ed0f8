use Rattle.std.proofs.Common.{sym, subst, ℕ}
use Rattle.cc_meaning.specs.declared.listing.RowName.TheVariants as row
use Rattle.cc_meaning_builder.specs.Named.{Means}
use Rattle.cc_builder.proofs.FoundRows.{fields_fit, fields_rise, found}
use Rattle.cc_builder.proofs.rows.field_row.Goals as goal

pub field_row-requires : goal.field_row-requires
field_row-requires c = fields_rise c.args.ids.now c.requires.few c.requires.ordered

pub returns : goal.returns
returns c = λ known. subst (λ (number : ℕ). Means c.args.ids.now (row.Field c.args.class.now c.args.name.now c.args.kind.now) number) (sym c.unwrap_or.ensures) (found c.args.ids.now (row.Field c.args.class.now c.args.name.now c.args.kind.now) c.field_row.result (c.field_row.ensures (fields_fit c.args.ids.now known.tables)) known)
