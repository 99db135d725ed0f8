use Rattle.cc_owners.proofs.Listings.{NotYet}
use Rattle.cc_owners.proofs.built_in.place_among.Given as goal

abbrev pub invariant-loop-place : goal.invariant-loop-place
invariant-loop-place l = NotYet l.methods l.name l.place
