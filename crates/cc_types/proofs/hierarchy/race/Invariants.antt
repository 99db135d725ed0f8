use Rattle.std.proofs.Common.{◌≡◌, ◌+◌, ◌≤◌}
use Rattle.cc_meaning_typing.specs.Heights.{rank}
use Rattle.cc_types.proofs.hierarchy.race.Given as goal

abbrev pub invariant-loop-above : goal.invariant-loop-above
invariant-loop-above l =
    (rank l.program l.fn.a + rank l.program l.second ≡ rank l.program l.fn.b + rank l.program l.first)
    × (rank l.program l.first ≤ rank l.program l.fn.a)
    × (rank l.program l.second ≤ rank l.program l.fn.b)

abbrev pub decreases-loop-above : goal.decreases-loop-above
decreases-loop-above l = rank l.program l.first
