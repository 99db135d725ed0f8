use Rattle.cc_alike_laws.proofs.Laws.{runs_are_alike}
use Rattle.cc_alike_laws.proofs.acts_keep_worlds_alike.Goals as goal

pub returns : goal.returns
returns c K script p s f a1 a2 w1 w2 r q within = runs_are_alike K script p s f a1 a2 w1 w2 r q within
