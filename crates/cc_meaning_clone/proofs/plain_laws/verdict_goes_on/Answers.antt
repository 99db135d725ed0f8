use Rattle.cc_meaning_clone.proofs.Verdicts.{goes_on}
use Rattle.cc_meaning_clone.proofs.plain_laws.verdict_goes_on.Goals as goal

pub returns : goal.returns
returns c = goes_on c.goes_on.ensures
