use Rattle.std.proofs.Common.{◌≡◌, length, Some, slice_get, refl, ap, subst, arith}
use Rattle.std.proofs.lemmas.Option.{slice_get_read}
use Rattle.cc_hierarchy.proofs.Extending.{shown_none, shown_more, shown_all}
use Rattle.cc_hierarchy.proofs.above.graph_above.Goals as goal

pub loop-stated-init : goal.loop-stated-init
loop-stated-init c = shown_none c.args.ids.now c.new-graph.result c.new-graph.ensures

pub loop-stated-preserved : goal.loop-stated-preserved
loop-stated-preserved c =
    let items = c.as_slice-stated-items.result.now in
    let there = subst (λ xs. slice_get xs c.loop-stated.stated-index ≡ Some c.stated-item.result) c.as_slice-stated-items.ensures
    (slice_get_read items (length items) c.loop-stated.stated-index c.stated-item.result refl c.loop-stated-test.true c.stated-item.is) in
    shown_more c.args.ids.now c.loop-stated.graph c.push.new.self c.loop-stated.stated-index c.stated-item.result c.in_ok-next_above.field-0 c.loop-stated.invariant there c.in_ok-push.ensures.ok c.in_ok-next_above.ensures

pub returns : goal.returns
returns c = shown_all c.args.ids.now c.loop-stated.graph c.loop-stated.stated-index (omega (arith, c.loop-stated-test.false, ap length c.as_slice-stated-items.ensures)) c.loop-stated.invariant
