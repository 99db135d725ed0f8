use Rattle.std.proofs.Common.{◌≡◌, ◌++◌, ◌+◌, ◌∙◌, sym, ap, rules, List, [], drop, ℕ}
use Rattle.std.proofs.lemmas.List.{drop_more, drop_all}
use Rattle.cc_meaning_nodes.specs.Frames.{frames_from, with_frames}
use Rattle.cc_framing.specs.Reader.{joined}
use Rattle.cc_framing.proofs.Loops.{next_piece, ended}
use Rattle.cc_framing.proofs.stream.read_pieces.Goals as goal

pub loop-piece-preserved : goal.loop-piece-preserved
loop-piece-preserved c =
    let i = c.loop-piece.piece-index in
    let piece = c.piece-item.result in
    let more = joined (drop (i + 1) c.args.pieces.now) in
    let split : joined (drop i c.args.pieces.now) ≡ c.as_slice.result.now ++ more = ap joined (drop_more c.args.pieces.now i piece c.loop-piece-test.true) ∙ ap (λ (xs : List ℕ). xs ++ more) (sym c.piece-item.is ∙ sym c.as_slice.ensures) in
    let so_far = ap (λ (xs : List ℕ). with_frames c.loop-piece.frames (frames_from c.loop-piece.reader xs)) (sym split) ∙ c.loop-piece.invariant.told in
    record {
      told = next_piece c.goes_on.ensures c.loop-piece.frames c.feed_all.new.frames c.loop-piece.reader c.feed_all.new.reader c.as_slice.result.now more _ c.in_ok-feed_all.ensures.frames so_far;
      partial = c.in_ok-feed_all.ensures.partial;
    }

pub returns : goal.returns
returns c =
    let none : joined (drop c.loop-piece.piece-index c.args.pieces.now) ≡ [] = ap joined (drop_all c.loop-piece.piece-index c.args.pieces.now (search rules)) in
    let e = c.loop-piece.reader in
    ended c.loop-piece.frames e _ _ (ap (frames_from e) none ∙ c.nothing_more.ensures.2 e c.loop-piece.invariant.partial) c.loop-piece.invariant.told
