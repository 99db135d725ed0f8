use Rattle.std.proofs.Common.{length, ◌-◌, ◌≤◌}
use Rattle.cc_meaning_program.specs.Instructions.{StandUntil}
use Rattle.cc_bodies.proofs.reading.instructions.Given as goal

abbrev pub invariant-loop-at : goal.invariant-loop-at
invariant-loop-at l = record { within : l.at ≤ length l.units; stand : StandUntil l.units l.at l.insns }

abbrev pub decreases-loop-at : goal.decreases-loop-at
decreases-loop-at l = length l.units - l.at
