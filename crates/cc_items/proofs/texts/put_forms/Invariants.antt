use Rattle.std.proofs.Common.{◌≡◌, ◌++◌, drop}
use Rattle.cc_meaning_dex.specs.Mutf8.{mutf8_bytes}
use Rattle.cc_items.proofs.texts.put_forms.Given as goal

abbrev pub invariant-loop-unit : goal.invariant-loop-unit
invariant-loop-unit l = l.out ++ mutf8_bytes (drop l.unit-index l.units) ≡ l.initial.out ++ mutf8_bytes l.units
