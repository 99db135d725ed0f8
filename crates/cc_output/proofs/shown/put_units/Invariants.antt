use Rattle.std.proofs.Common.{◌≡◌, ◌++◌, take}
use Rattle.cc_output.specs.Shown.{shown_units}
use Rattle.cc_output.proofs.shown.put_units.Given as goal

abbrev pub invariant-loop-unit : goal.invariant-loop-unit
invariant-loop-unit l = l.line.items ≡ l.initial.line.items ++ shown_units (take l.unit-index l.units)
