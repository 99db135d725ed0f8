use Rattle.cc_meaning_alike.specs.Laws.{held}
use Rattle.cc_alike_laws.proofs.Reports.{report_is_local}
use Rattle.cc_alike_laws.proofs.right_answers_change_no_report.Goals as goal

pub returns : goal.returns
returns g c ok fine holds K hook look script p keeps looks fits texts limits t u hd o o' = report_is_local ok fine (held holds) K hook look script p keeps looks fits texts limits t u hd o o'
