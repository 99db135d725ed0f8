use Rattle.cc_meaning_program.proofs.Files as files
use Rattle.cc_meaning_program.proofs.owner_laws.files_have_descriptors.Goals as goal

pub returns : goal.returns
returns c = files.files_have_descriptors c.one_text.ensures c.well_formed_files.ensures
