use Rattle.cc_builder_laws.proofs.CodeItems as laws
use Rattle.cc_builder_laws.proofs.member_laws.written_code.Goals as goal

pub returns : goal.returns
returns c = laws.written_code c.lower.ensures
