use Rattle.std.proofs.Common.{length, ◌-◌, ◌≡◌, ◌≤◌, drop}
use Rattle.cc_machine.specs.Going.{goes}
use Rattle.cc_machine.proofs.progress.go.Given as goal

abbrev pub invariant-loop-progress : goal.invariant-loop-progress
invariant-loop-progress l = record {
  went : goes l.plain.functions l.stops (drop l.progress.next l.insns) l.progress ≡ goes l.fn.plain.functions l.fn.stops (drop l.fn.progress.next l.fn.plain.main.insns) l.fn.progress;
  within : l.progress.next ≤ length l.insns;
}

abbrev pub decreases-loop-progress : goal.decreases-loop-progress
decreases-loop-progress l = length l.insns - l.progress.next
