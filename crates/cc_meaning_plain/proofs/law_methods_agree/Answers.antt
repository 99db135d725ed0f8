use Rattle.cc_meaning_plain.proofs.MethodsLemmas.{methods_agree}
use Rattle.cc_meaning_plain.proofs.law_methods_agree.Goals as goal

pub returns : goal.returns
returns c = methods_agree
