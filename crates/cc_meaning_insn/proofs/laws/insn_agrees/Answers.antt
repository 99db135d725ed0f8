use Rattle.cc_meaning_insn.proofs.InsnLaws as laws
use Rattle.cc_meaning_insn.proofs.laws.insn_agrees.Goals as goal

pub returns : goal.returns
returns c = laws.insn_agrees
