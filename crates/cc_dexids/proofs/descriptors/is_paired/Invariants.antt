use Rattle.std.proofs.Common.{◌≡◌, drop}
use Rattle.cc_meaning_dex.specs.Descriptors.{is_paired, paired_after}
use Rattle.cc_dexids.proofs.descriptors.is_paired.Given as goal

abbrev pub invariant-loop-unit : goal.invariant-loop-unit
invariant-loop-unit l = is_paired l.units ≡ paired_after l.begun (drop l.unit-index l.units)
