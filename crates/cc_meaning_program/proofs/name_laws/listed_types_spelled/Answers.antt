use Rattle.cc_meaning_program.proofs.ListedTypes as listed
use Rattle.cc_meaning_program.proofs.name_laws.listed_types_spelled.Goals as goal

pub returns : goal.returns
returns c = listed.listed_types_spelled
