use Rattle.cc_meaning_insn.proofs.FaultLaws as laws
use Rattle.cc_meaning_insn.proofs.laws.insn_faults.Goals as goal

pub returns : goal.returns
returns c = laws.insn_faults
