use Rattle.cc_dex_writer.proofs.Whole as whole
use Rattle.cc_dex_writer.proofs.head_laws.built_is_whole.Goals as goal

pub returns : goal.returns
returns c = whole.built_is_whole c.lower.ensures
