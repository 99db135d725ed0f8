use Rattle.std.proofs.Common.{◌↔◌, drop}
use Rattle.cc_meaning_plain.specs.Plain.{IsPaired}
use Rattle.cc_plain.proofs.DescriptorLemmas.{IsPairedAfter}
use Rattle.cc_plain.proofs.members.is_paired.Given as goal

abbrev pub invariant-loop-unit : goal.invariant-loop-unit
invariant-loop-unit l = IsPaired l.units ↔ IsPairedAfter l.begun (drop l.unit-index l.units)
