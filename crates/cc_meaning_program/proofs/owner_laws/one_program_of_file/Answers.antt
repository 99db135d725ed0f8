use Rattle.cc_meaning_program.proofs.Files as files
use Rattle.cc_meaning_program.proofs.owner_laws.one_program_of_file.Goals as goal

pub returns : goal.returns
returns c = files.one_program_of_file c.one_ids.ensures c.one_classes.ensures c.files_have_descriptors.ensures c.one_program.ensures
