use Rattle.cc_run_laws.proofs.Laws.{programs_are_linked}
use Rattle.cc_run_laws.proofs.law_linked.Goals as goal

pub returns : goal.returns
returns c = programs_are_linked c.spelled_tables_fit.ensures c.spelled_classes_fit.ensures c.spelled_parts_are_bounded.ensures c.programs_are_complete.ensures
