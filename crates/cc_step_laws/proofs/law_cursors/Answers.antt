-- Cursors follow events.
use Rattle.cc_step_laws.proofs.Cursors.{cursors_follow}
use Rattle.cc_step_laws.proofs.law_cursors.Goals as goal

pub returns : goal.returns
returns g c = λ hook script p follows. cursors_follow hook script p follows
