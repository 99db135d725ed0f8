use Rattle.cc_alike_laws.proofs.Laws.{renaming_and_locality}
use Rattle.cc_alike_laws.proofs.renaming_and_locality.Goals as goal

pub returns : goal.returns
returns c K script p = renaming_and_locality K script p
