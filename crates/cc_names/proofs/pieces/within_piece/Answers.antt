use Rattle.std.proofs.Common.{◌≡◌, [], ◌++◌, drop, Some, None, slice_get, sym, ap, ◌∙◌}
use Rattle.cc_names.specs.Pieces.{joined}
use Rattle.cc_names.proofs.Joining.{is_empty_by, is_some_by, next_piece, no_piece}
use Rattle.cc_names.proofs.pieces.within_piece.Goals.{else-loop-rest-test, then-loop-rest-test+in-None}
use Rattle.cc_names.proofs.pieces.within_piece.Goals as goal

pub loop-rest-preserved : goal.loop-rest-preserved
loop-rest-preserved g c =
    let pieces = g.P.Pieces.pieces c.args.texts.now c.args.row in
    let empty : c.loop-rest.rest.now ≡ [] = is_empty_by c.loop-rest.rest.now c.is_empty.result c.is_empty.ensures c.loop-rest-test.true in
    let there : slice_get pieces c.loop-rest.next ≡ Some c.in-Some.piece.now = sym c.in-Some.ensures.value in
    sym (next_piece pieces c.loop-rest.next c.in-Some.piece.now there) ∙ ap (λ r. r ++ joined (drop c.loop-rest.next pieces)) (sym empty) ∙ c.loop-rest.invariant

pub returns-clause-ended : goal.returns-clause-ended
returns-clause-ended g c =
    let pieces = g.P.Pieces.pieces c.args.texts.now c.args.row in
    elim c.loop-rest-test.branch [
      | else-loop-rest-test w ↦ λ empty. absurd (is_some_by c.loop-rest.rest.now c.is_empty.result c.is_empty.ensures w.loop-rest-test.false empty)
      | then-loop-rest-test+in-None w ↦ λ empty.
          let none : slice_get pieces c.loop-rest.next ≡ None = sym w.in-None.ensures.value in
          ap (λ r. r ++ joined (drop c.loop-rest.next pieces)) empty ∙ no_piece pieces c.loop-rest.next none
    ]
