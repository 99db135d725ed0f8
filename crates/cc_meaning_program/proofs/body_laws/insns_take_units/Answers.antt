use Rattle.cc_meaning_program.proofs.BodyRuns as laws
use Rattle.cc_meaning_program.proofs.body_laws.insns_take_units.Goals as goal

pub returns : goal.returns
returns c = laws.decoded_taken
