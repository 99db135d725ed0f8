use Rattle.std.proofs.Common.{◌≡◌, map, take}
use Rattle.cc_tables.proofs.order.copies.Given as goal

abbrev pub invariant-loop-row : goal.invariant-loop-row
invariant-loop-row l = l.all ≡ map (λ row. row.now) (take l.row-index l.rows)
