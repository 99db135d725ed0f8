use Rattle.cc_meaning_dex.proofs.TextFaults as faults
use Rattle.cc_meaning_dex.proofs.text_laws.text_faults.Goals as goal

pub returns : goal.returns
returns c = faults.text_faults
