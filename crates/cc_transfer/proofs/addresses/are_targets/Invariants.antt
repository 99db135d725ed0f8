use Rattle.std.proofs.Common.{ℕ, ◌<◌, pos, slice_index_or}
use Rattle.cc_meaning_typing.specs.Code.{address}
use Rattle.cc_meaning_typing.specs.WellTyped.{IsTarget}
use Rattle.cc_transfer.proofs.addresses.are_targets.Given as goal

abbrev pub invariant-loop-target : goal.invariant-loop-target
invariant-loop-target l = (k : ℕ) → k < l.target-index → IsTarget l.code (address l.at (slice_index_or l.targets k (pos 0)))
