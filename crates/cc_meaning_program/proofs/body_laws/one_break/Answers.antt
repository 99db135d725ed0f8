use Rattle.cc_meaning_program.proofs.BodyRuns as laws
use Rattle.cc_meaning_program.proofs.body_laws.one_break.Goals as goal

pub returns : goal.returns
returns c = laws.one_break
