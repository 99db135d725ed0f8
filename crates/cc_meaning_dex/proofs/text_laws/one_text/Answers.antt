use Rattle.cc_meaning_dex.proofs.ItemLaws as item
use Rattle.cc_meaning_dex.proofs.text_laws.one_text.Goals as goal

pub returns : goal.returns
returns c = item.one_text
