use Rattle.cc_builder_laws.proofs.Lebs as lebs
use Rattle.cc_builder_laws.proofs.numbers.written_uleb.Goals as goal

pub returns : goal.returns
returns c = lebs.written_uleb
