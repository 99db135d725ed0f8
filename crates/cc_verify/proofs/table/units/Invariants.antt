use Rattle.std.specs.Prelude.{◌≡◌, ◌<◌, ◌^◌, take}
use Rattle.cc_meaning_typing.specs.Tries.{units_in}
use Rattle.cc_verify.proofs.table.units.Given as goal

abbrev pub invariant-loop-placed : goal.invariant-loop-placed
invariant-loop-placed l = (l.units ≡ units_in (take l.placed-index l.insns)) × (l.units < 2 ^ 32)
