use Rattle.cc_meaning_dex.proofs.CauseLaws as causes
use Rattle.cc_meaning_dex.proofs.class_laws.faults_caused.Goals as goal

pub returns : goal.returns
returns c = causes.faults_caused c.uleb_agrees.ensures c.sleb_agrees.ensures
