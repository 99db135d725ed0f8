use Rattle.cc_meaning_dex.proofs.TryLaws as tries
use Rattle.cc_meaning_dex.proofs.class_laws.handlers_rise.Goals as goal

pub returns : goal.returns
returns c = tries.handlers_rise c.uleb_agrees.ensures c.sleb_agrees.ensures
