use Rattle.cc_meaning_device.proofs.EntryForms.{functions_are_few}
use Rattle.cc_meaning_device.proofs.law_functions_are_few.Goals as goal

pub returns : goal.returns
returns c = functions_are_few
