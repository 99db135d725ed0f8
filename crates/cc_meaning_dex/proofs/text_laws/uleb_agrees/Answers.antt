use Rattle.cc_meaning_dex.proofs.LebLaws as leb
use Rattle.cc_meaning_dex.proofs.text_laws.uleb_agrees.Goals as goal

pub returns : goal.returns
returns c = leb.uleb_agrees
