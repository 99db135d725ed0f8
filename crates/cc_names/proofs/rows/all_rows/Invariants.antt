use Rattle.std.proofs.Common.{◌≡◌, ◌<◌, ◌↔◌, ℕ, Contains, length}
use Rattle.cc_names.proofs.rows.all_rows.Given as goal

abbrev pub invariant-loop-row : goal.invariant-loop-row
invariant-loop-row l = ((row : ℕ) → Contains l.rows row ↔ (row < l.row)) × (length l.rows ≡ l.row)
