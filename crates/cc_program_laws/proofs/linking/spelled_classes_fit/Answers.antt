use Rattle.cc_program_laws.proofs.Classes as classes
use Rattle.cc_program_laws.proofs.linking.spelled_classes_fit.Goals as goal

pub returns : goal.returns
returns c = classes.spelled_classes_fit
