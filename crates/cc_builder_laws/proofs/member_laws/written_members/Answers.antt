use Rattle.cc_builder_laws.proofs.Members as laws
use Rattle.cc_builder_laws.proofs.member_laws.written_members.Goals as goal

pub returns : goal.returns
returns c = laws.written_members c.lower.ensures
