use Rattle.cc_meaning_dex.proofs.ClassLaws as classes
use Rattle.cc_meaning_dex.proofs.class_laws.one_classes.Goals as goal

pub returns : goal.returns
returns c = classes.one_classes c.classes_agree.ensures
