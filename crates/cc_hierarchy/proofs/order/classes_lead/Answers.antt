use Rattle.cc_hierarchy.proofs.Leading.{classes_lead}
use Rattle.cc_hierarchy.proofs.order.classes_lead.Goals as goal

pub returns : goal.returns
returns c = classes_lead
