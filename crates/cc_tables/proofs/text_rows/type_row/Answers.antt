use Rattle.cc_tables.proofs.Typed.{named_row, fit_row}
use Rattle.cc_tables.proofs.text_rows.type_row.Goals as goal

pub returns-clause-named : goal.returns-clause-named
returns-clause-named c some = named_row c.args.ids.now c.args.name.now c.described_row.result some c.described_row.ensures

pub returns-clause-fit : goal.returns-clause-fit
returns-clause-fit c fit = fit_row c.args.ids.now c.args.name.now c.described_row.result fit c.described_row.ensures
