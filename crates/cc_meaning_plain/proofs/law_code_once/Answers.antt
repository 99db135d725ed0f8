use Rattle.cc_meaning_plain.proofs.Once.{code_once}
use Rattle.cc_meaning_plain.proofs.law_code_once.Goals as goal

pub returns : goal.returns
returns c = code_once c.law_insns_once.ensures
