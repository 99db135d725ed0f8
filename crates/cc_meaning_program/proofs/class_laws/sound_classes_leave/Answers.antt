use Rattle.cc_meaning_program.proofs.ClassLaws.{leaves}
use Rattle.cc_meaning_program.proofs.class_laws.sound_classes_leave.Goals as goal

pub returns : goal.returns
returns c = leaves
