use Rattle.cc_meaning_images.specs.Instance.{silent}
use Rattle.cc_meaning_clone.proofs.Answers.{answered_is}
use Rattle.cc_meaning_clone.proofs.run_laws.answered_is.Goals as goal

pub returns : goal.returns
returns c = answered_is c.runnable_is.ensures (c.law_function_runs.ensures silent)
