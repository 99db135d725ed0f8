use Rattle.cc_meaning_dex.proofs.SoundLaws as sound
use Rattle.cc_meaning_dex.proofs.table_laws.texts_judged.Goals as goal

pub returns : goal.returns
returns c = sound.texts_judged c.text_agrees.ensures
