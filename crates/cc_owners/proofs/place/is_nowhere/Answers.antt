use Rattle.cc_owners.proofs.Placing.{nowhere, turned}
use Rattle.cc_owners.proofs.place.is_nowhere.Goals as goal

pub returns : goal.returns
returns c = turned c.is_defined.result (nowhere c.args.linked.now c.requires c.args.row) c.is_defined.ensures
