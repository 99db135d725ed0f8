use Rattle.cc_meaning_device.proofs.EntryForms.{entry_is_run}
use Rattle.cc_meaning_device.proofs.law_entry_is_run.Goals as goal

pub returns : goal.returns
returns c = entry_is_run c.law_numbers_methods.ensures c.form_is.ensures
