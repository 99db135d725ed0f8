use Rattle.std.proofs.Common.{sym, arith}
use Rattle.cc_members.specs.ListedNames.{listed_at}
use Rattle.cc_members.proofs.Listing.{of_built_in, of_array, of_others, few_classes}
use Rattle.cc_members.proofs.planned_built_in.Listings.table_of.Goals as goal

pub place_among-requires : goal.place_among-requires
place_among-requires c = rw (c.as_slice.ensures, c.requires.classes) (omega (arith, few_classes))

pub returns-in-BuiltIn : goal.returns-in-BuiltIn
returns-in-BuiltIn c =
    let at = rw (c.as_slice.ensures, c.requires.classes) at c.place_among.ensures in
    rw (c.requires.members, at, c.in-BuiltIn.is) (of_built_in c.args.class.now)

pub returns-in-Array : goal.returns-in-Array
returns-in-Array c = rw (c.array_table.ensures.is, c.requires.members, c.requires.classes, c.in-Array.is) (of_array c.args.class.now)

pub returns-in_default : goal.returns-in_default
unfolding listed_at
returns-in_default c = sym (of_others c.args.class.now c.args.kind c.in_default.not-BuiltIn c.in_default.not-Array)
