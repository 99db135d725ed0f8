use Rattle.cc_meaning_dex.proofs.FormFaults as faults
use Rattle.cc_meaning_dex.proofs.text_laws.front_faults.Goals as goal

pub returns : goal.returns
returns c = faults.front_faults
