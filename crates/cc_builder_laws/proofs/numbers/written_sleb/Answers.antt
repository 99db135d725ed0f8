use Rattle.cc_builder_laws.proofs.Signed as slebs
use Rattle.cc_builder_laws.proofs.numbers.written_sleb.Goals as goal

pub returns : goal.returns
returns c = slebs.written_sleb
