use Rattle.cc_program_laws.proofs.Hierarchy.{hierarchy}
use Rattle.cc_program_laws.proofs.programs.programs_are_hierarchies.Goals as goal

pub returns : goal.returns
returns c = hierarchy
