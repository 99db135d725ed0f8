use Rattle.cc_meaning_plain.proofs.Once.{insns_once}
use Rattle.cc_meaning_plain.proofs.law_insns_once.Goals as goal

pub returns : goal.returns
returns c = insns_once c.law_insn_once.ensures
