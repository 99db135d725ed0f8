use Rattle.cc_program_laws.proofs.Tables as tables
use Rattle.cc_program_laws.proofs.linking.spelled_tables_fit.Goals as goal

pub returns : goal.returns
returns c = tables.spelled_tables_fit c.one_text.ensures c.well_formed_files.ensures c.types_listed.ensures
