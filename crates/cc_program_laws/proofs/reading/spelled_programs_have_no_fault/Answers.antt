use Rattle.cc_program_laws.proofs.FirstFaults.{none_where_spelled}
use Rattle.cc_program_laws.proofs.reading.spelled_programs_have_no_fault.Goals as goal

pub returns : goal.returns
returns c = none_where_spelled c.one_ids.ensures c.one_classes.ensures c.sound_classes_have_no_fault.ensures c.sound_bodies_have_none.ensures
