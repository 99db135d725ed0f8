use Rattle.cc_meaning_insn.proofs.ArithmeticLaws as laws
use Rattle.cc_meaning_insn.proofs.laws.wrap_agrees.Goals as goal

pub returns : goal.returns
returns c = laws.wrap_agrees
