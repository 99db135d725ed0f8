use Rattle.cc_program.proofs.OneSpelled.{one_spelled}
use Rattle.cc_program.proofs.read.one_spelled_program.Goals as goal

pub returns : goal.returns
returns c = one_spelled c.one_ids.ensures c.one_classes.ensures c.files_have_descriptors.ensures c.one_program.ensures
