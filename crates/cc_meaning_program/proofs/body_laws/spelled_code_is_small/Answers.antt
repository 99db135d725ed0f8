use Rattle.cc_meaning_program.proofs.CodeSizeLaws as laws
use Rattle.cc_meaning_program.proofs.body_laws.spelled_code_is_small.Goals as goal

pub returns : goal.returns
returns c = laws.spelled_code_is_small
