use Rattle.cc_program_laws.proofs.FirstFaults.{are_hierarchies}
use Rattle.cc_program_laws.proofs.reading.spelled_programs_are_hierarchies.Goals as goal

pub returns : goal.returns
returns c = are_hierarchies c.spelled_tables_fit.ensures c.programs_are_hierarchies.ensures
