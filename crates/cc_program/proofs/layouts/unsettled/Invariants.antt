use Rattle.std.proofs.Common.{length, ◌-◌}
use Rattle.cc_program.proofs.Climbing.{Climbs}
use Rattle.cc_program.proofs.layouts.unsettled.Given as goal

abbrev pub invariant-loop-next : goal.invariant-loop-next
invariant-loop-next l = Climbs l.outlines l.class l.path l.next

abbrev pub decreases-loop-next : goal.decreases-loop-next
decreases-loop-next l = length l.outlines - length l.path
