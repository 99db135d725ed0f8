use Rattle.cc_meaning_dex.proofs.LebLaws as leb
use Rattle.cc_meaning_dex.proofs.text_laws.one_uleb.Goals as goal

pub returns : goal.returns
returns c = leb.one_uleb
