use Rattle.cc_meaning_plain.proofs.OrderLemmas.{order_once}
use Rattle.cc_meaning_plain.proofs.law_order_once.Goals as goal

pub returns : goal.returns
returns c = order_once
