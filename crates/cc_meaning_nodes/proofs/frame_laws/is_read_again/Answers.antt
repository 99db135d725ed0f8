use Rattle.cc_meaning_nodes.proofs.Spelled.{frames-spellings}
use Rattle.cc_meaning_nodes.proofs.frame_laws.is_read_again.Goals as goal

pub returns : goal.returns
returns c = frames-spellings
