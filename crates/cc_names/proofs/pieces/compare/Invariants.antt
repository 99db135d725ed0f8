use Rattle.std.proofs.Common.{length}
use Rattle.cc_names.specs.Pieces.{joined_from}
use Rattle.cc_names.proofs.Joining.{Compares}
use Rattle.cc_names.proofs.pieces.compare.Given as goal

abbrev pub invariant-loop-count : goal.invariant-loop-count
invariant-loop-count g l = Compares (g.P.Pieces.pieces l.texts l.one) (g.P.Pieces.pieces l.texts l.other) l.here l.next_here l.there l.next_there

abbrev pub decreases-loop-count : goal.decreases-loop-count
decreases-loop-count g l = length (joined_from (g.P.Pieces.pieces l.texts l.one) l.here l.next_here)
