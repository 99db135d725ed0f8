use Rattle.cc_text.proofs.Signed.{sleb_spelled, sleb_refused}
use Rattle.cc_text.proofs.leb128.sleb.Goals as goal

pub returns-clause-spelled : goal.returns-clause-spelled
returns-clause-spelled c = sleb_spelled c.sleb_agrees.ensures c.args.bytes.now c.args.at c.read_sleb.result c.read_sleb.ensures

pub returns-clause-refused : goal.returns-clause-refused
returns-clause-refused c = sleb_refused c.sleb_agrees.ensures c.args.bytes.now c.args.at c.read_sleb.result c.read_sleb.ensures
