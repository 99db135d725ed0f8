use Rattle.cc_builder_laws.proofs.Written as written
use Rattle.cc_builder_laws.proofs.items.written_types.Goals as goal

pub returns : goal.returns
returns c = written.written_types
