use Rattle.cc_program_laws.proofs.Complete as whole
use Rattle.cc_program_laws.proofs.programs.programs_are_complete.Goals as goal

pub returns : goal.returns
returns c = whole.programs_are_complete c.instructions_laid_out.ensures c.one_method_owner.ensures c.one_field_owner.ensures
