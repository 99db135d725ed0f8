use Rattle.cc_meaning_insn.proofs.ArithmeticLaws as laws
use Rattle.cc_meaning_insn.proofs.laws.floor_agrees.Goals as goal

pub returns : goal.returns
returns c = laws.floor_agrees
