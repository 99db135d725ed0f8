use Rattle.cc_meaning_dex.proofs.TextLaws as text
use Rattle.cc_meaning_dex.proofs.text_laws.text_steps.Goals as goal

pub returns : goal.returns
returns c = text.text_steps
