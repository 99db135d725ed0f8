use Rattle.cc_meaning_nodes.proofs.Fronts.{front-more}
use Rattle.cc_meaning_nodes.proofs.frame_laws.front_stays.Goals as goal

pub returns : goal.returns
returns c = front-more
