use Rattle.std.proofs.Common.{◌-◌, length}
use Rattle.cc_text.proofs.Reading.{IsBehind}
use Rattle.cc_text.proofs.texts.decode.Given as goal

abbrev pub invariant-loop-unit : goal.invariant-loop-unit
invariant-loop-unit l = IsBehind l.at l.bytes l.units.items l.place

abbrev pub decreases-loop-unit : goal.decreases-loop-unit
decreases-loop-unit l = length l.bytes - l.place
