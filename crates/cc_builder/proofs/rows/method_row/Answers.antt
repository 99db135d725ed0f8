use Rattle.std.proofs.Common.{sym, subst, ℕ}
use Rattle.cc_meaning.specs.declared.listing.RowName.TheVariants as row
use Rattle.cc_meaning_builder.specs.Named.{Means}
use Rattle.cc_builder.proofs.FoundRows.{found, methods_fit, methods_rise}
use Rattle.cc_builder.proofs.rows.method_row.Goals as goal

pub method_row-requires : goal.method_row-requires
method_row-requires c = methods_rise c.args.ids.now c.requires.few c.requires.ordered

pub returns : goal.returns
returns c = λ known. subst (λ (number : ℕ). Means c.args.ids.now (row.Method c.args.class.now c.args.name.now c.args.proto.now) number) (sym c.unwrap_or.ensures) (found c.args.ids.now (row.Method c.args.class.now c.args.name.now c.args.proto.now) c.method_row.result (c.method_row.ensures (methods_fit c.args.ids.now known.tables)) known)
