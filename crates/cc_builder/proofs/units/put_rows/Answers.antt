use Rattle.std.proofs.Common.{arith}
use Rattle.cc_builder.proofs.KnownNames.{of_named}
use Rattle.cc_builder.proofs.Marks.{put_next, put_none}
use Rattle.cc_builder.proofs.units.put_rows.Goals as goal

pub loop-mark-init : goal.loop-mark-init
loop-mark-init c = λ known end put. put

pub loop-mark-preserved : goal.loop-mark-preserved
loop-mark-preserved c = λ known end behind.
    let ids = c.args.ids.now in
    let marks = c.args.marks.now in
    let place = c.loop-mark.mark-index in
    let mark = c.mark-item.result in
    let means = c.named_row.ensures (of_named ids (λ it. it.row) marks place mark known c.loop-mark-test.true c.mark-item.is) in
    c.loop-mark.invariant known end (put_next ids marks place mark c.named_row.result c.loop-mark.units end c.loop-mark-test.true c.mark-item.is means c.in_ok-put_row.ensures.room (rw c.in_ok-put_row.ensures.put at behind))

pub returns : goal.returns
returns c = λ known. c.loop-mark.invariant known c.loop-mark.units (put_none c.args.ids.now c.args.marks.now c.loop-mark.mark-index c.loop-mark.units (omega (arith, c.loop-mark-test.false)))
