use Rattle.cc_meaning_program.proofs.OneProgram as programs
use Rattle.cc_meaning_program.proofs.owner_laws.one_program.Goals as goal

pub returns : goal.returns
returns c = programs.one_program c.one_class_names.ensures c.one_texts.ensures c.spelled_once.ensures c.one_reading.ensures
