use Rattle.cc_meaning_device.proofs.EntryForms.{entry_is_short}
use Rattle.cc_meaning_device.proofs.law_entry_is_short.Goals as goal

pub returns : goal.returns
returns c = entry_is_short
