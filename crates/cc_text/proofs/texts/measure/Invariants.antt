use Rattle.std.proofs.Common.{◌-◌, length}
use Rattle.cc_text.proofs.Reading.{IsMeasured}
use Rattle.cc_text.proofs.texts.measure.Given as goal

abbrev pub invariant-loop-size : goal.invariant-loop-size
invariant-loop-size l = IsMeasured l.at l.bytes l.count l.place

abbrev pub decreases-loop-size : goal.decreases-loop-size
decreases-loop-size l = length l.bytes - l.place
