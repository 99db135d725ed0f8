use Rattle.cc_program_laws.proofs.Bounds.{parts_are_bounded}
use Rattle.cc_program_laws.proofs.programs.spelled_parts_are_bounded.Goals as goal

pub returns : goal.returns
returns c = parts_are_bounded c.well_formed_files.ensures
