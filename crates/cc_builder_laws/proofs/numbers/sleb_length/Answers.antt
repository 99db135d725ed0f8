use Rattle.cc_builder_laws.proofs.Signed as slebs
use Rattle.cc_builder_laws.proofs.numbers.sleb_length.Goals as goal

pub returns : goal.returns
returns c = slebs.sleb_length
