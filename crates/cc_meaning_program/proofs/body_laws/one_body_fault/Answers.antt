use Rattle.cc_meaning_program.proofs.BodyFaultLaws as laws
use Rattle.cc_meaning_program.proofs.body_laws.one_body_fault.Goals as goal

pub returns : goal.returns
returns c = laws.one_body_fault
