use Rattle.cc_meaning_nodes.proofs.Laws.{begins_with_whole}
use Rattle.cc_meaning_nodes.proofs.frame_laws.begins_with_whole.Goals as goal

pub returns : goal.returns
returns c = begins_with_whole
