use Rattle.cc_pair.proofs.Pieces.{drop_one}
use Rattle.cc_pair.proofs.coming.Coming.take_first.Goals as goal

pub returns : goal.returns
returns c = drop_one c.self.inside.next c.self.inside.list.items c.args.self.now c.self.view_is
