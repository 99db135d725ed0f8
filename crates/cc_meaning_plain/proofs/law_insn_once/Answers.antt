use Rattle.cc_meaning_plain.proofs.Once.{insn_once}
use Rattle.cc_meaning_plain.proofs.law_insn_once.Goals as goal

pub returns : goal.returns
returns c = insn_once c.one_text.ensures
