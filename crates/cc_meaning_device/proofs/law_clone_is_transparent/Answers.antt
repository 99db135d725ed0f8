use Rattle.cc_meaning_device.proofs.Transparent.{clone_is_transparent}
use Rattle.cc_meaning_device.proofs.law_clone_is_transparent.Goals as goal

pub returns : goal.returns
returns c = clone_is_transparent c.law_noted_is_read.ensures c.law_stream_answers.ensures c.law_honest_is_local.ensures
