use Rattle.cc_meaning_program.proofs.ClassLaws.{no_fault}
use Rattle.cc_meaning_program.proofs.class_laws.sound_classes_have_no_fault.Goals as goal

pub returns : goal.returns
returns c = no_fault
