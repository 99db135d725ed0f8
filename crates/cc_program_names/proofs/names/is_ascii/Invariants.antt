use Rattle.std.proofs.Common.{◌≡◌, ℕ, ◌<◌, slice_index_or, length}
use Rattle.cc_program_names.proofs.names.is_ascii.Given as goal

abbrev pub invariant-loop-at : goal.invariant-loop-at
invariant-loop-at l = (k : ℕ) → k < l.at → slice_index_or l.units k 0 ≡ slice_index_or l.text k 0
