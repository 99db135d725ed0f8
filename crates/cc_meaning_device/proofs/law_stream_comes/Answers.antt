use Rattle.cc_meaning_device.proofs.Complete.{stream_comes}
use Rattle.cc_meaning_device.proofs.law_stream_comes.Goals as goal

pub returns : goal.returns
returns c =
    stream_comes c.goes_on.ensures c.is_read_again.ensures c.talk_goes_on.ensures.front c.judged_once.ensures.verdict c.law_plain_once.ensures
    c.runs_have_parts.ensures c.answered_is.ensures c.backs_are_short.ensures
