use Rattle.std.proofs.Common.{◌≡◌, ◌++◌, drop}
use Rattle.cc_meaning_insn.specs.Payloads.{bytes_of}
use Rattle.cc_insn.proofs.lists.bytes_of.Given as goal

abbrev pub invariant-loop-unit : goal.invariant-loop-unit
invariant-loop-unit l = l.bytes.items ++ bytes_of (drop l.unit-index l.units) ≡ bytes_of l.units
