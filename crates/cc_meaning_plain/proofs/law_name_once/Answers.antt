use Rattle.cc_meaning_plain.proofs.Once.{name_once}
use Rattle.cc_meaning_plain.proofs.law_name_once.Goals as goal

pub returns : goal.returns
returns c = name_once c.one_text.ensures
