use Rattle.cc_meaning_plain.proofs.MethodsLemmas.{methods_once}
use Rattle.cc_meaning_plain.proofs.law_methods_once.Goals as goal

pub returns : goal.returns
returns c = methods_once c.law_name_once.ensures c.law_code_once.ensures c.law_main_is_no_function.ensures
