use Rattle.cc_meaning_images.specs.Instance.{silent}
use Rattle.cc_meaning_device.proofs.Honest.{honest_is_local}
use Rattle.cc_meaning_device.proofs.law_honest_is_local.Goals as goal

pub returns : goal.returns
returns c = honest_is_local c.runnable_is.ensures c.runs_have_parts.ensures c.answered_is.ensures (c.law_function_runs.ensures silent) c.law_back_is_read.ensures
