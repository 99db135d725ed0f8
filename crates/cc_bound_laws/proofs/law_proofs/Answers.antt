-- What a tree proves is so.
use Rattle.cc_bound_laws.proofs.Trees.{proofs_hold}
use Rattle.cc_bound_laws.proofs.law_proofs.Goals as goal

pub returns : goal.returns
returns c = proofs_hold
