use Rattle.std.proofs.Common.{◌≡◌, ℕ, ◌<◌, false, [], get_or}
use Rattle.std.specs.Str.{bytes_eq}
use Rattle.cc_members.proofs.planned_built_in.place_among.Given as goal

abbrev pub invariant-loop-other : goal.invariant-loop-other
invariant-loop-other l = (l.place ≡ l.other-index) × ((k : ℕ) → k < l.other-index → bytes_eq (get_or l.names k []) l.name ≡ false)
