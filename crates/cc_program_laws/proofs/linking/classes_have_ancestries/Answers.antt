use Rattle.cc_program_laws.proofs.Ancestors as ancestors
use Rattle.cc_program_laws.proofs.linking.classes_have_ancestries.Goals as goal

pub returns : goal.returns
returns c = ancestors.classes_have_ancestries
