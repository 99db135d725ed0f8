use Rattle.std.proofs.Common.{◌≢◌, ℕ, ◌-◌, ◌<◌, ◌≤◌, get_or}
use Rattle.cc_hierarchy.specs.Members.{member_at}
use Rattle.cc_hierarchy.proofs.repeats.has_tie.Given as goal

abbrev pub invariant-loop-at : goal.invariant-loop-at
invariant-loop-at l = record {
  some : 1 ≤ l.at;
  apart : (k : ℕ) → 1 ≤ k → k < l.at → member_at l.ids l.table l.rows (get_or l.order (k - 1) 0) ≢ member_at l.ids l.table l.rows (get_or l.order k 0);
}
