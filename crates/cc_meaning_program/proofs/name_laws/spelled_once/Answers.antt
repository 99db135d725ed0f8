use Rattle.cc_meaning_program.proofs.Spelling as spelling
use Rattle.cc_meaning_program.proofs.name_laws.spelled_once.Goals as goal

pub returns : goal.returns
returns c = spelling.spelled_once
