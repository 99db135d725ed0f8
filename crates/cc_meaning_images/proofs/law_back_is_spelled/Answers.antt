use Rattle.cc_meaning_images.proofs.Backs.{back_is_spelled}
use Rattle.cc_meaning_images.proofs.law_back_is_spelled.Goals as goal

pub returns : goal.returns
returns c = back_is_spelled
