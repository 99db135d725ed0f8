use Rattle.cc_builder_laws.proofs.Parts as parts
use Rattle.cc_builder_laws.proofs.standing.stands_longer.Goals as goal

pub returns : goal.returns
returns c = parts.stands_longer
