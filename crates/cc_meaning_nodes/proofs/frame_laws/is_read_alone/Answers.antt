use Rattle.cc_meaning_nodes.proofs.Laws.{is_read_alone}
use Rattle.cc_meaning_nodes.proofs.frame_laws.is_read_alone.Goals as goal

pub returns : goal.returns
returns c = is_read_alone
