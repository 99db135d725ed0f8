use Rattle.cc_meaning_dex.proofs.SlebLaws as sleb
use Rattle.cc_meaning_dex.proofs.text_laws.sleb_agrees.Goals as goal

pub returns : goal.returns
returns c = sleb.sleb_agrees
