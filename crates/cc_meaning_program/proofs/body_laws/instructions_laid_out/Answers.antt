use Rattle.cc_meaning_program.proofs.BodyRuns as laws
use Rattle.cc_meaning_program.proofs.body_laws.instructions_laid_out.Goals as goal

pub returns : goal.returns
returns c = laws.instructions_laid_out
