use Rattle.cc_meaning_clone.proofs.Answers.{form_is}
use Rattle.cc_meaning_clone.proofs.run_laws.form_is.Goals as goal

pub returns : goal.returns
returns c = form_is
