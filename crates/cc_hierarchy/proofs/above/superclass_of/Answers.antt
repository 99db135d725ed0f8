use Rattle.cc_hierarchy.proofs.Extending.{superclass_iff, no_superclass_iff}
use Rattle.cc_hierarchy.proofs.above.superclass_of.Goals as goal

pub returns-in-None : goal.returns-in-None
returns-in-None c = no_superclass_iff c.args.ids.now c.args.stated.now.superclass c.new-above.result c.in-None.is c.new-above.ensures

pub returns-in_ok-add_definition-in-Some : goal.returns-in_ok-add_definition-in-Some
returns-in_ok-add_definition-in-Some c =
    superclass_iff c.args.ids.now c.args.stated.now.superclass c.in-Some.ty c.new-above.result c.add_definition.new.above c.in-Some.is c.new-above.ensures c.in_ok-add_definition-in-Some.ensures
