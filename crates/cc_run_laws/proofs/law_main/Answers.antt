use Rattle.cc_run_laws.proofs.Laws.{main_is_right}
use Rattle.cc_run_laws.proofs.law_main.Goals as goal

pub returns : goal.returns
returns c = main_is_right c.spelled_tables_fit.ensures c.spelled_classes_fit.ensures c.spelled_parts_are_bounded.ensures c.programs_are_complete.ensures
