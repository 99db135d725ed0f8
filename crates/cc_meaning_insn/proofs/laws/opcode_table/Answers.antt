use Rattle.cc_meaning_insn.proofs.TableLaws as laws
use Rattle.cc_meaning_insn.proofs.laws.opcode_table.Goals as goal

pub returns : goal.returns
returns c = laws.opcode_table
