use Rattle.cc_builder_laws.proofs.Lebs as lebs
use Rattle.cc_builder_laws.proofs.numbers.uleb_length.Goals as goal

pub returns : goal.returns
returns c = lebs.uleb_length
