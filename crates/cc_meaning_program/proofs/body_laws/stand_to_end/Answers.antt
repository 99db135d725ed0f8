use Rattle.cc_meaning_program.proofs.BodyRuns as laws
use Rattle.cc_meaning_program.proofs.body_laws.stand_to_end.Goals as goal

pub returns : goal.returns
returns c = laws.stand_to_end
