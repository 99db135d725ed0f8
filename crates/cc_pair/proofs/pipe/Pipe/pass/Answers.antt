use Rattle.cc_pair.proofs.Pieces.{pass_more}
use Rattle.cc_pair.proofs.pipe.Pipe.pass.Goals as goal

pub returns : goal.returns
returns c = pass_more c.self.inside.at c.args.count c.self.inside.bytes.items c.args.self.now c.self.view_is
