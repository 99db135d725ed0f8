use Rattle.cc_text.proofs.Leb.{uleb_spelled, uleb_refused}
use Rattle.cc_text.proofs.leb128.uleb.Goals as goal

pub returns-clause-spelled : goal.returns-clause-spelled
returns-clause-spelled c = uleb_spelled c.uleb_agrees.ensures c.args.bytes.now c.args.at c.read_uleb.result c.read_uleb.ensures

pub returns-clause-refused : goal.returns-clause-refused
returns-clause-refused c = uleb_refused c.uleb_agrees.ensures c.args.bytes.now c.args.at c.read_uleb.result c.read_uleb.ensures
