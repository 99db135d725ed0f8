use Rattle.cc_meaning_typing.proofs.Standing.{laid_out_stands}
use Rattle.cc_meaning_typing.proofs.verify_laws.law_laid_out.Goals as goal

pub returns : goal.returns
returns c = laid_out_stands
