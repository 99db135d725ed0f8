use Rattle.cc_meaning_device.proofs.Transparent.{noted_is_read}
use Rattle.cc_meaning_device.proofs.law_noted_is_read.Goals as goal

pub returns : goal.returns
returns c = noted_is_read c.law_plain_offloads.ensures c.law_run_is_spelled.ensures c.runnable_is.ensures c.runs_have_parts.ensures
