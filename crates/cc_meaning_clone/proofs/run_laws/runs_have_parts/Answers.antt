use Rattle.cc_meaning_clone.proofs.Answers.{runs_have_parts}
use Rattle.cc_meaning_clone.proofs.run_laws.runs_have_parts.Goals as goal

pub returns : goal.returns
returns c = runs_have_parts c.runnable_is.ensures
