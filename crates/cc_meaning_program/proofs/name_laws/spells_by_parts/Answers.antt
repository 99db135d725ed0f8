use Rattle.cc_meaning_program.proofs.Spelling as spelling
use Rattle.cc_meaning_program.proofs.name_laws.spells_by_parts.Goals as goal

pub returns : goal.returns
returns c = spelling.spells_by_parts
