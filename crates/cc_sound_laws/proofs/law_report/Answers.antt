use Rattle.cc_sound_laws.proofs.Laws.{run_has_report}
use Rattle.cc_sound_laws.proofs.law_report.Goals as goal

pub returns : goal.returns
returns g c hook script p = run_has_report hook script p
