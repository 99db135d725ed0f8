use Rattle.cc_meaning_program.specs.ClassNames.{built_in}
use Rattle.cc_hierarchy.proofs.classes.superclass_of_built_in.Goals as goal

pub number_of-requires-clause-there : goal.number_of-requires-clause-there
number_of-requires-clause-there c = (c.requires.ready.names.are c.in-Some.superclass.now).1 (built_in c.in-Some.ensures.known)
