use Rattle.std.proofs.Common.{get_or}
use Rattle.std.proofs.lemmas.Option.{slice_get-get_or}
use Rattle.cc_owners.proofs.Indexing.{added_none, added_more}
use Rattle.cc_owners.proofs.index.add_rows.Goals as goal

pub loop-place-init : goal.loop-place-init
loop-place-init c = added_none c.args.definition c.args.rows.now c.args.all.now

pub loop-place-preserved : goal.loop-place-preserved
loop-place-preserved c =
    let row = get_or c.args.rows.now c.loop-place.place 0 in
    added_more c.args.definition c.loop-place.place row c.args.rows.now c.args.all.now c.loop-place.all c.push.new.self
    (slice_get-get_or c.args.rows.now c.loop-place.place 0 c.loop-place-test.true) c.loop-place.invariant (rw c.in_ok-number.ensures at c.in_ok-push.ensures.ok)
