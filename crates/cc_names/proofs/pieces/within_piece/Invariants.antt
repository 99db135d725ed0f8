use Rattle.std.proofs.Common.{◌≡◌, ◌-◌, length}
use Rattle.cc_names.specs.Pieces.{joined_from}
use Rattle.cc_names.proofs.pieces.within_piece.Given as goal

abbrev pub invariant-loop-rest : goal.invariant-loop-rest
invariant-loop-rest g l = joined_from (g.P.Pieces.pieces l.texts l.row) l.rest l.next ≡ joined_from (g.P.Pieces.pieces l.texts l.row) l.fn.rest l.fn.next

abbrev pub decreases-loop-rest : goal.decreases-loop-rest
decreases-loop-rest g l = length (g.P.Pieces.pieces l.texts l.row) - l.next
