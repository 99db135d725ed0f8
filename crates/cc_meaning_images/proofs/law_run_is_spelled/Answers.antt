use Rattle.cc_meaning_images.proofs.Runs.{run_is_spelled}
use Rattle.cc_meaning_images.proofs.law_run_is_spelled.Goals as goal

pub returns : goal.returns
returns c = run_is_spelled
