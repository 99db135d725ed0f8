use Rattle.cc_program_laws.proofs.Interfaces as interfaces
use Rattle.cc_program_laws.proofs.linking.interfaces_have_lists.Goals as goal

pub returns : goal.returns
returns c = interfaces.interfaces_have_lists
