use Rattle.cc_meaning_plain.proofs.Numbers.{numbers_methods}
use Rattle.cc_meaning_plain.proofs.law_numbers_methods.Goals as goal

pub returns : goal.returns
returns c = numbers_methods
