use Rattle.cc_meaning_device.proofs.Complete.{noted_is_answered}
use Rattle.cc_meaning_device.proofs.law_noted_is_answered.Goals as goal

pub returns : goal.returns
returns c =
    noted_is_answered c.law_plain_offloads.ensures c.law_entry_is_run.ensures c.law_run_is_read.ensures c.runnable_is.ensures c.runs_have_parts.ensures c.answered_is.ensures
    c.law_back_is_read.ensures
