use Rattle.std.proofs.Common.{◌≤◌, length}
use Rattle.cc_output.proofs.Writing.{IsWritten}
use Rattle.cc_output.proofs.carry.write_all.Given as goal

abbrev pub invariant-writing : goal.invariant-writing
invariant-writing g l = record {
  written : IsWritten l.text l.rest (g.W.Sink.pipe l.fn.sink) (g.W.Sink.pipe l.sink);
  room : length l.rest ≤ (g.W.Sink.pipe l.sink).spare;
  faults : (g.W.Sink.pipe l.fn.sink).faults ≤ (g.W.Sink.pipe l.sink).faults;
}

abbrev pub decreases-writing : goal.decreases-writing
decreases-writing g l = length l.rest
