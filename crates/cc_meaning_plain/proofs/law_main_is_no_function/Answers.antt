use Rattle.cc_meaning_plain.proofs.MethodsLemmas.{main_is_no_function}
use Rattle.cc_meaning_plain.proofs.law_main_is_no_function.Goals as goal

pub returns : goal.returns
returns c = main_is_no_function c.law_type_once.ensures
