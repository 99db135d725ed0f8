use Rattle.cc_hierarchy.proofs.FirstDefining.{found_is_number}
use Rattle.cc_hierarchy.proofs.sources.Sources.definition.Goals as goal

pub returns : goal.returns
returns c = found_is_number c.args.self.now.ids.now c.args.name.now c.find.result c.find.ensures
