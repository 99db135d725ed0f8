use Rattle.std.proofs.Common.{◌≡◌, length}
use Rattle.cc_meaning_nodes.specs.Frames.{frames_from}
use Rattle.cc_meaning_nodes.specs.Frames.{with_frames, IsPartial}
use Rattle.cc_framing.proofs.stream.feed_all.Given as goal

abbrev pub invariant-loop-rest : goal.invariant-loop-rest
invariant-loop-rest l = record {
  told : with_frames l.frames (frames_from l.reader l.rest) ≡ with_frames l.fn.frames (frames_from l.fn.reader l.piece);
  partial : IsPartial l.reader;
}

abbrev pub decreases-loop-rest : goal.decreases-loop-rest
decreases-loop-rest l = length l.rest
