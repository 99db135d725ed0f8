use Rattle.cc_meaning_images.proofs.Orders.{out_is_alone}
use Rattle.cc_meaning_images.proofs.law_out_is_alone.Goals as goal

pub returns : goal.returns
returns c = out_is_alone
