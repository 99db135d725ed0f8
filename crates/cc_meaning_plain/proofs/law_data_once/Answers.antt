use Rattle.cc_meaning_plain.proofs.PlainOnce.{data_once}
use Rattle.cc_meaning_plain.proofs.law_data_once.Goals as goal

pub returns : goal.returns
returns c = data_once c.one_uleb.ensures
