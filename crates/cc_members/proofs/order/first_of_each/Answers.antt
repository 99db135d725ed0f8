use Rattle.std.proofs.Common.{[], ◌∷◌, ◌++◌, take}
use Rattle.cc_names.specs.InOrder.{AreInOrder, IsBehindLast}
use Rattle.cc_names.proofs.Ordered.{one_taken, one_behind, one_left_out, sorted_before}
use Rattle.cc_members.specs.FirstInOrder.{AreFirst}
use Rattle.cc_members.proofs.Ordered.{none_first, first_behind, first_left_out}
use Rattle.cc_members.proofs.order.first_of_each.Goals.{then-is_behind_last+in_ok-push, else-is_behind_last}
use Rattle.cc_members.proofs.order.first_of_each.Goals as goal

pub loop-item-init : goal.loop-item-init
loop-item-init g c = rw c.new-kept.ensures (none_first (g.N.Naming.name c.args.naming.now))

pub loop-item-preserved : goal.loop-item-preserved
loop-item-preserved g c =
    let name = g.N.Naming.name c.args.naming.now in
    let sorted = c.args.sorted.now in
    let item = c.item-item.result in
    let kept = c.loop-item.kept in
    let given = take c.loop-item.item-index sorted in
    let was = c.loop-item.invariant in
    elim c.if-is_behind_last.branch [
      | then-is_behind_last+in_ok-push w ↦
          let behind : IsBehindLast name kept item = rw (w.if-is_behind_last.true, c.as_slice.ensures) at c.is_behind_last.ensures.behind in
          let more = one_taken (λ given. AreInOrder name given (kept ++ item ∷ []) × AreFirst name given (kept ++ item ∷ [])) sorted c.loop-item.item-index item c.loop-item-test.true c.item-item.is
          (one_behind name given kept item was.0 behind, first_behind name given kept item was.0 was.1 behind) in
          rw (w.kept-is, w.in_ok-push.ensures.ok) more
      | else-is_behind_last w ↦
          let other = rw (w.if-is_behind_last.false, c.as_slice.ensures) at c.is_behind_last.ensures.other in
          let more = one_taken (λ given. AreInOrder name given kept × AreFirst name given kept) sorted c.loop-item.item-index item c.loop-item-test.true c.item-item.is (
            one_left_out name given kept item was.0 other
                (sorted_before name sorted c.requires c.loop-item.item-index item c.loop-item-test.true c.item-item.is),
            first_left_out name given kept item was.1,
          ) in
          rw w.kept-is more
    ]
