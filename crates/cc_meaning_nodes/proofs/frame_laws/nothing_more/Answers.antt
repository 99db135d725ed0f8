use Rattle.cc_meaning_nodes.proofs.Laws.{nothing_more}
use Rattle.cc_meaning_nodes.proofs.frame_laws.nothing_more.Goals as goal

pub returns : goal.returns
returns c = nothing_more
