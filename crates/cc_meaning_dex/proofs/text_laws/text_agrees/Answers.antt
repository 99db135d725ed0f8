use Rattle.cc_meaning_dex.proofs.ItemLaws as item
use Rattle.cc_meaning_dex.proofs.text_laws.text_agrees.Goals as goal

pub returns : goal.returns
returns c = item.text_agrees
