use Rattle.cc_sound_laws.proofs.Laws.{eval_is_sound}
use Rattle.cc_sound_laws.proofs.law_sound.Goals as goal

pub returns : goal.returns
returns g c hook script p = eval_is_sound hook script p
