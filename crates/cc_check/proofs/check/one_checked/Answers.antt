use Rattle.cc_check.proofs.OneAnswer.{one_answer}
use Rattle.cc_check.proofs.check.one_checked.Goals as goal

pub returns : goal.returns
returns c = one_answer c.one_spelled_program.ensures c.one_read_fault.ensures c.spelled_programs_have_no_fault.ensures c.spelled_programs_are_hierarchies.ensures c.law_one_first_fault.ensures.one c.law_one_first_fault.ensures.well_typed
