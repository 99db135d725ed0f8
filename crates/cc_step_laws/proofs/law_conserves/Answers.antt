-- Words are conserved.
use Rattle.cc_step_laws.proofs.Words.{act_conserves, conserves}
use Rattle.cc_step_laws.proofs.law_conserves.Goals as goal

pub returns-clause-acts : goal.returns-clause-acts
returns-clause-acts g c = λ script p. act_conserves script p

pub returns-clause-methods : goal.returns-clause-methods
returns-clause-methods g c = λ hook script p keeps. conserves hook script p keeps
