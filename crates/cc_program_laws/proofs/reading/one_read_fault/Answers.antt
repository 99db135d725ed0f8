use Rattle.cc_program_laws.proofs.FirstFaults.{one_read_fault}
use Rattle.cc_program_laws.proofs.reading.one_read_fault.Goals as goal

pub returns : goal.returns
returns c = one_read_fault c.one_ids.ensures c.one_classes.ensures c.members_agree.ensures c.one_class_fault.ensures c.one_body_fault.ensures c.sound_classes_have_no_fault.ensures c.sound_bodies_have_none.ensures
