use Rattle.cc_meaning_typing.proofs.Lattice.{type_trees}
use Rattle.cc_meaning_typing.proofs.law_tree.Goals as goal

pub returns : goal.returns
returns c = type_trees
