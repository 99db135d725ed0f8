use Rattle.cc_builder_laws.proofs.Parts as parts
use Rattle.cc_builder_laws.proofs.standing.units_stand.Goals as goal

pub returns : goal.returns
returns c = parts.units_stand
