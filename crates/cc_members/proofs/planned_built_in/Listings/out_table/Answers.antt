use Rattle.cc_members.proofs.Listing.{of_out}
use Rattle.cc_members.proofs.planned_built_in.Listings.out_table.Goals as goal

pub returns : goal.returns
returns c = rw (c.array_table.ensures.is, c.requires.members, c.requires.classes) of_out
