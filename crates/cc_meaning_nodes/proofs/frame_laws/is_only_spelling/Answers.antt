use Rattle.cc_meaning_nodes.proofs.Spelled.{only}
use Rattle.cc_meaning_nodes.proofs.frame_laws.is_only_spelling.Goals as goal

pub returns : goal.returns
returns c = only
