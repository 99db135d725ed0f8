use Rattle.cc_meaning_program.specs.OwnMembers.{built_in_by_kind}
use Rattle.cc_members.proofs.ListedTables.{none_listed}
use Rattle.cc_members.proofs.made_built_in.methods_listed.Goals as goal

pub returns-in-BuiltIn : goal.returns-in-BuiltIn
unfolding built_in_by_kind
returns-in-BuiltIn c = rw c.in-BuiltIn.is c.methods_of_class.ensures

pub returns-in-Array : goal.returns-in-Array
unfolding built_in_by_kind
returns-in-Array c = rw c.in-Array.is (c.array_methods.ensures c.args.class.now)

pub returns-in_default : goal.returns-in_default
returns-in_default c = none_listed c.args.kind c.args.class.now c.in_default.not-BuiltIn c.in_default.not-Array
