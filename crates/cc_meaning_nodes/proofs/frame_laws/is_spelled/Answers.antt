use Rattle.cc_meaning_nodes.proofs.Spelled.{spells}
use Rattle.cc_meaning_nodes.proofs.frame_laws.is_spelled.Goals as goal

pub returns : goal.returns
returns c = spells
