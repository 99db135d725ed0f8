use Rattle.std.proofs.Common.{◌∙◌}
use Rattle.cc_dexcode.proofs.Bytes.{little_read}
use Rattle.cc_dexcode.proofs.little.unsigned_at.Goals as goal

pub returns : goal.returns
returns c = c.read_uint.ensures ∙ little_read c.args.file.now c.args.at c.args.size
