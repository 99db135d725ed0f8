use Rattle.cc_meaning_device.proofs.Owed.{stream_is_owed}
use Rattle.cc_meaning_device.proofs.law_stream_owes.Goals as goal

pub returns : goal.returns
returns c = stream_is_owed c.is_read_again.ensures c.runs_have_parts.ensures c.answered_is.ensures c.backs_are_short.ensures
