use Rattle.cc_program_laws.proofs.WellFormed as well
use Rattle.cc_program_laws.proofs.programs.programs_are_well_formed.Goals as goal

pub returns : goal.returns
returns c = well.programs_are_well_formed c.instructions_laid_out.ensures
