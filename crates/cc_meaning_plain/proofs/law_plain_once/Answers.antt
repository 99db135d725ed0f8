use Rattle.cc_meaning_plain.proofs.PlainOnce.{plain_once}
use Rattle.cc_meaning_plain.proofs.law_plain_once.Goals as goal

pub returns : goal.returns
returns c = plain_once c.law_type_once.ensures c.law_data_once.ensures c.law_code_once.ensures c.law_methods_once.ensures c.law_methods_agree.ensures c.law_order_once.ensures
