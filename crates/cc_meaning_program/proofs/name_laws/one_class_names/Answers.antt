use Rattle.cc_meaning_program.proofs.Rising as rising
use Rattle.cc_meaning_program.proofs.name_laws.one_class_names.Goals as goal

pub returns : goal.returns
returns c = rising.one_class_names
