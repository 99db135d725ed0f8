use Rattle.std.proofs.Common.{length, refl}
use Rattle.std.proofs.lemmas.Option.{slice_get_read}
use Rattle.cc_hierarchy.proofs.Numbering.{one_more_outline}
use Rattle.cc_hierarchy.proofs.classes.outlines.Goals as goal

pub loop-name-preserved : goal.loop-name-preserved
loop-name-preserved c =
    let ids = c.args.ids.now in
    let names = c.args.names.now in
    let items = c.as_slice-name-items.result.now in
    let there = rw c.as_slice-name-items.ensures at (slice_get_read items (length items) c.loop-name.name-index c.name-item.result refl c.loop-name-test.true c.name-item.is) in
    rw c.in_ok-push.ensures.ok (one_more_outline ids names c.loop-name.name-index c.loop-name.outlines c.name-item.result c.in_ok-made.made c.loop-name.invariant there (rw c.as_slice-in-loop-name.ensures at c.in_ok-made.ensures))
