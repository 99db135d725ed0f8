-- What a step leaves to do.
use Rattle.cc_step_laws.proofs.Keeps.{step_keeps, run_keeps, opening_is_main}
use Rattle.cc_step_laws.proofs.law_rest.Goals as goal

pub returns-clause-step : goal.returns-clause-step
returns-clause-step g c = λ hook script p spends. step_keeps hook script p spends

pub returns-clause-run : goal.returns-clause-run
returns-clause-run g c = λ hook script p spends. run_keeps hook script p spends

pub returns-clause-opening : goal.returns-clause-opening
returns-clause-opening g c = λ hook script p. opening_is_main hook script p
