use Rattle.cc_builder_laws.proofs.Fitted as fitted
use Rattle.cc_builder_laws.proofs.items.written_tables.Goals as goal

pub returns : goal.returns
returns c = fitted.written_tables c.well_formed_files.ensures
