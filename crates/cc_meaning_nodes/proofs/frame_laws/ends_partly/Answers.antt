use Rattle.cc_meaning_nodes.proofs.Laws.{ends_partly}
use Rattle.cc_meaning_nodes.proofs.frame_laws.ends_partly.Goals as goal

pub returns : goal.returns
returns c = ends_partly
