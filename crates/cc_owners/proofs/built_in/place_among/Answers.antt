use Rattle.std.proofs.Common.{sym, ◌∙◌}
use Rattle.cc_owners.proofs.Listings.{spelled_here, not_spelled, nothing_spelled}
use Rattle.cc_owners.proofs.built_in.place_among.Goals as goal

pub returns-then-spells : goal.returns-then-spells
returns-then-spells c = spelled_here c.args.methods.now c.args.name.now _ c.loop-place.place c.loop-place-test.true (sym c.spells.ensures ∙ c.if-spells.true) c.loop-place.invariant

pub loop-place-preserved : goal.loop-place-preserved
loop-place-preserved c = not_spelled c.args.methods.now c.args.name.now _ c.loop-place.place c.loop-place-test.true (sym c.spells.ensures ∙ c.if-spells.false) c.loop-place.invariant

pub returns : goal.returns
returns c = nothing_spelled c.args.methods.now c.args.name.now c.loop-place.place c.loop-place-test.false c.loop-place.invariant
