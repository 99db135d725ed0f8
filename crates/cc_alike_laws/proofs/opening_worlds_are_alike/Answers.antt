use Rattle.cc_alike_laws.proofs.Laws.{opening_alike}
use Rattle.cc_alike_laws.proofs.opening_worlds_are_alike.Goals as goal

pub returns : goal.returns
returns c K p limits = opening_alike K p limits
