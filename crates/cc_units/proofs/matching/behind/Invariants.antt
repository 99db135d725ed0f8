use Rattle.std.proofs.Common.{◌≡◌, drop}
use Rattle.cc_units.specs.Matching.{without}
use Rattle.cc_units.proofs.matching.behind.Given as goal

abbrev pub invariant-loop-unit : goal.invariant-loop-unit
invariant-loop-unit l = without l.initial.rest l.units ≡ without l.rest (drop l.unit-index l.units)
