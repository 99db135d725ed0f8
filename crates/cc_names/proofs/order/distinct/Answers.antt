use Rattle.std.proofs.Common.{[], ◌∷◌, ◌++◌, take}
use Rattle.cc_names.specs.InOrder.{AreInOrder, IsBehindLast}
use Rattle.cc_names.proofs.Ordered.{one_taken, one_behind, one_left_out, sorted_before}
use Rattle.cc_names.proofs.order.distinct.Goals.{then-is_behind_last+in_ok-push, else-is_behind_last}
use Rattle.cc_names.proofs.order.distinct.Goals as goal

pub loop-item-preserved : goal.loop-item-preserved
loop-item-preserved g c =
    let name = g.N.Naming.name c.args.naming.now in
    let sorted = c.args.sorted.now in
    let item = c.item-item.result in
    let kept = c.loop-item.kept in
    elim c.if-is_behind_last.branch [
      | then-is_behind_last+in_ok-push w ↦
          let behind : IsBehindLast name kept item = rw (w.if-is_behind_last.true, c.as_slice.ensures) at c.is_behind_last.ensures.behind in
          let more = one_taken (λ given. AreInOrder name given (kept ++ item ∷ [])) sorted c.loop-item.item-index item c.loop-item-test.true c.item-item.is
          (one_behind name (take c.loop-item.item-index sorted) kept item c.loop-item.invariant behind) in
          rw (w.kept-is, w.in_ok-push.ensures.ok) more
      | else-is_behind_last w ↦
          let other = rw (w.if-is_behind_last.false, c.as_slice.ensures) at c.is_behind_last.ensures.other in
          let more = one_taken (λ given. AreInOrder name given kept) sorted c.loop-item.item-index item c.loop-item-test.true c.item-item.is
          (one_left_out name (take c.loop-item.item-index sorted) kept item c.loop-item.invariant other
          (sorted_before name sorted c.requires c.loop-item.item-index item c.loop-item-test.true c.item-item.is)) in
          rw w.kept-is more
    ]
