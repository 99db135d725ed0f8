use Rattle.cc_run_laws.proofs.Laws.{programs_have_reports}
use Rattle.cc_run_laws.proofs.law_report.Goals as goal

pub returns : goal.returns
returns c = programs_have_reports c.spelled_tables_fit.ensures c.spelled_classes_fit.ensures c.spelled_parts_are_bounded.ensures c.programs_are_complete.ensures c.law_local.ensures
