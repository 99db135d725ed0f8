use Rattle.cc_alike_laws.proofs.Laws.{whole_renaming}
use Rattle.cc_alike_laws.proofs.whole_renaming.Goals as goal

pub returns : goal.returns
returns c script p = whole_renaming script p
