use Rattle.cc_meaning_plain.proofs.Functions.{function_runs}
use Rattle.cc_meaning_plain.proofs.law_function_runs.Goals as goal

pub returns : goal.returns
returns g c = function_runs
