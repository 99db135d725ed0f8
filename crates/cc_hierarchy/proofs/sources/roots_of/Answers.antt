use Rattle.cc_meaning.specs.BuiltIn.{object_name, exception_name, error_name}
use Rattle.cc_hierarchy.proofs.Roots.{object_is_class, exception_is_class, error_is_class}
use Rattle.cc_hierarchy.proofs.sources.roots_of.Goals as goal

pub number_of-requires-clause-there : goal.number_of-requires-clause-there
unfolding object_name
number_of-requires-clause-there c = (c.requires.names.are object_name).1 (object_is_class c.args.ids.now)

pub number_of-requires-2-clause-there : goal.number_of-requires-2-clause-there
unfolding exception_name
number_of-requires-2-clause-there c = (c.requires.names.are exception_name).1 (exception_is_class c.args.ids.now)

pub number_of-requires-3-clause-there : goal.number_of-requires-3-clause-there
unfolding error_name
number_of-requires-3-clause-there c = (c.requires.names.are error_name).1 (error_is_class c.args.ids.now)

pub returns : goal.returns
unfolding object_name exception_name error_name
returns c = record { object = c.in_ok-object.ensures; exception = c.in_ok-exception.ensures; error = c.in_ok-error.ensures }
