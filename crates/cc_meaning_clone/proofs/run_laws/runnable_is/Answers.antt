use Rattle.cc_meaning_clone.proofs.Functions.{runnable_is}
use Rattle.cc_meaning_clone.proofs.run_laws.runnable_is.Goals as goal

pub returns : goal.returns
returns c = runnable_is c.law_numbers_methods.ensures c.law_only_file_has_code.ensures
