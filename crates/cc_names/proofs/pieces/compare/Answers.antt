use Rattle.std.proofs.Common.{◌≡◌, ◌⊎◌, inl, inr, [], take, drop, sym, ap, ◌∙◌, arith}
use Rattle.std.specs.Cmp.Lexicographic.{slice_cmp}
use Rattle.std.specs.Ordering.{nat_cmp}
use Rattle.cc_names.specs.Pieces.{joined, joined_from}
use Rattle.cc_names.proofs.Joining.{is_empty_by, starts, decided, goes_on, ends}
use Rattle.cc_names.proofs.pieces.compare.Goals.{then-loop-count-test+else-not-is_empty, else-loop-count-test}
use Rattle.cc_names.proofs.pieces.compare.Goals as goal

pub loop-count-init : goal.loop-count-init
loop-count-init g c =
    let these = g.P.Pieces.pieces c.args.texts.now c.args.one in
    let those = g.P.Pieces.pieces c.args.texts.now c.args.other in
    starts these those c.same_front-start.result _ _ _ _ c.same_front-start.ensures c.within_piece-next_here.ensures.same c.within_piece-next_there.ensures.same c.within_piece-next_here.ensures.ended c.within_piece-next_there.ensures.ended

pub returns-then-not-is_eq : goal.returns-then-not-is_eq
returns-then-not-is_eq g c =
    let these = g.P.Pieces.pieces c.args.texts.now c.args.one in
    let those = g.P.Pieces.pieces c.args.texts.now c.args.other in
    let n = c.min-count.result in
    let order : c.cmp-order.result ≡ slice_cmp nat_cmp (take n c.loop-count.here.now) (take n c.loop-count.there.now) = rw (← c.split_at.ensures.front, ← c.split_at-in-loop-count.ensures.front) c.cmp-order.ensures in
    decided these those c.loop-count.here.now c.loop-count.next_here c.loop-count.there.now c.loop-count.next_there n c.cmp-order.result c.loop-count.invariant
    (omega (arith, c.min-count.ensures)) (omega (arith, c.min-count.ensures)) order (sym c.is_eq.ensures ∙ c.if-not-is_eq.true)

pub loop-count-preserved : goal.loop-count-preserved
loop-count-preserved g c =
    let these = g.P.Pieces.pieces c.args.texts.now c.args.one in
    let those = g.P.Pieces.pieces c.args.texts.now c.args.other in
    let n = c.min-count.result in
    let order : c.cmp-order.result ≡ slice_cmp nat_cmp (take n c.loop-count.here.now) (take n c.loop-count.there.now) = rw (← c.split_at.ensures.front, ← c.split_at-in-loop-count.ensures.front) c.cmp-order.ensures in
    let at_here : joined_from these c.within_piece.result.0.now c.within_piece.result.1 ≡ joined_from these (drop n c.loop-count.here.now) c.loop-count.next_here =
    c.within_piece.ensures.same ∙ ap (λ r. joined_from these r c.loop-count.next_here) c.split_at.ensures.back in
    let at_there : joined_from those c.within_piece-in-loop-count.result.0.now c.within_piece-in-loop-count.result.1 ≡ joined_from those (drop n c.loop-count.there.now) c.loop-count.next_there =
    c.within_piece-in-loop-count.ensures.same ∙ ap (λ r. joined_from those r c.loop-count.next_there) c.split_at-in-loop-count.ensures.back in
    goes_on these those c.loop-count.here.now c.loop-count.next_here c.loop-count.there.now c.loop-count.next_there n c.cmp-order.result c.loop-count.invariant
    (omega (arith, c.min-count.ensures)) (omega (arith, c.min-count.ensures)) order (sym c.is_eq.ensures ∙ c.if-not-is_eq.false)
    _ _ _ _ at_here at_there c.within_piece.ensures.ended c.within_piece-in-loop-count.ensures.ended

pub returns : goal.returns
returns g c =
    let these = g.P.Pieces.pieces c.args.texts.now c.args.one in
    let those = g.P.Pieces.pieces c.args.texts.now c.args.other in
    let finish : (c.loop-count.here.now ≡ []) ⊎ (c.loop-count.there.now ≡ []) → c.cmp.result ≡ slice_cmp nat_cmp (joined these) (joined those) = λ one. ends these those c.loop-count.here.now c.loop-count.next_here c.loop-count.there.now c.loop-count.next_there c.cmp.result c.loop-count.invariant one c.cmp.ensures in
    elim c.loop-count-test.branch [
      | then-loop-count-test+else-not-is_empty w ↦ finish (inr (is_empty_by c.loop-count.there.now w.is_empty-in-loop-count.result w.is_empty-in-loop-count.ensures w.if-not-is_empty.false))
      | else-loop-count-test w ↦ finish (inl (is_empty_by c.loop-count.here.now c.is_empty.result c.is_empty.ensures w.loop-count-test.false))
    ]
