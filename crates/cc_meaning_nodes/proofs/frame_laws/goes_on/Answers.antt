use Rattle.cc_meaning_nodes.proofs.Streams.{frames_from-append}
use Rattle.cc_meaning_nodes.proofs.frame_laws.goes_on.Goals as goal

pub returns : goal.returns
returns c = frames_from-append
