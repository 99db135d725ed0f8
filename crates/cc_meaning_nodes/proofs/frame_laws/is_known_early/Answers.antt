use Rattle.cc_meaning_nodes.proofs.Laws.{is_known_early}
use Rattle.cc_meaning_nodes.proofs.frame_laws.is_known_early.Goals as goal

pub returns : goal.returns
returns c = is_known_early
