use Rattle.cc_meaning_plain.proofs.Staged.{plain_reports}
use Rattle.cc_meaning_plain.proofs.law_plain_reports.Goals as goal

pub returns : goal.returns
returns c = plain_reports
