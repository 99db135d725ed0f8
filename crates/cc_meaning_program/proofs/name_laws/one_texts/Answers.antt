use Rattle.cc_meaning_program.proofs.Rising as rising
use Rattle.cc_meaning_program.proofs.name_laws.one_texts.Goals as goal

pub returns : goal.returns
returns c = rising.one_texts
