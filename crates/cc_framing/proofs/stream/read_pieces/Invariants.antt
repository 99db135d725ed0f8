use Rattle.std.proofs.Common.{◌≡◌, drop}
use Rattle.cc_framing.specs.Reader.{joined}
use Rattle.cc_meaning_nodes.specs.Frames.{frames_of, frames_from}
use Rattle.cc_meaning_nodes.specs.Frames.{with_frames, IsPartial}
use Rattle.cc_framing.proofs.stream.read_pieces.Given as goal

abbrev pub invariant-loop-piece : goal.invariant-loop-piece
invariant-loop-piece l = record {
  told : with_frames l.frames (frames_from l.reader (joined (drop l.piece-index l.pieces))) ≡ frames_of (joined l.pieces);
  partial : IsPartial l.reader;
}
