use Rattle.cc_meaning_plain.proofs.Returns.{plain_returns}
use Rattle.cc_meaning_plain.proofs.law_plain_returns.Goals as goal

pub returns : goal.returns
returns c = plain_returns c.law_plain_reports.ensures
