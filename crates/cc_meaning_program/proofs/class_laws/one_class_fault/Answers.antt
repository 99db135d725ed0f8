use Rattle.cc_meaning_program.proofs.ClassLaws.{one_fault}
use Rattle.cc_meaning_program.proofs.class_laws.one_class_fault.Goals as goal

pub returns : goal.returns
returns c = one_fault
