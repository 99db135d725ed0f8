use Rattle.cc_meaning_dex.proofs.TextLaws as text
use Rattle.cc_meaning_dex.proofs.text_laws.mutf8_agrees.Goals as goal

pub returns : goal.returns
returns c = text.mutf8_agrees
