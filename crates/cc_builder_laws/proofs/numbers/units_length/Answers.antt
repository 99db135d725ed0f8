use Rattle.cc_builder_laws.proofs.Written as written
use Rattle.cc_builder_laws.proofs.numbers.units_length.Goals as goal

pub returns : goal.returns
returns c = written.units_length
