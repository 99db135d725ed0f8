use Rattle.cc_meaning_dex.proofs.ClassLaws as classes
use Rattle.cc_meaning_dex.proofs.class_laws.classes_agree.Goals as goal

pub returns : goal.returns
returns c = classes.classes_agree c.uleb_agrees.ensures c.sleb_agrees.ensures
