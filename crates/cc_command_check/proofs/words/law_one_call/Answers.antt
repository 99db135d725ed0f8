use Rattle.cc_command_check.proofs.Single.{one_call}
use Rattle.cc_command_check.proofs.words.law_one_call.Goals as goal

pub returns : goal.returns
returns c = one_call
