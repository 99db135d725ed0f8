use Rattle.cc_meaning_plain.proofs.PlainOnce.{type_once}
use Rattle.cc_meaning_plain.proofs.law_type_once.Goals as goal

pub returns : goal.returns
returns c = type_once c.one_text.ensures
