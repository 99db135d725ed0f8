use Rattle.cc_builder_laws.proofs.Tries as laws
use Rattle.cc_builder_laws.proofs.member_laws.written_tries.Goals as goal

pub returns : goal.returns
returns c = laws.written_tries c.lower.ensures
