use Rattle.std.proofs.Common.{◌≡◌, ◌+◌, drop}
use Rattle.cc_meaning_dex.specs.Descriptors.{dims_of}
use Rattle.cc_dexids.proofs.descriptors.dims_of.Given as goal

abbrev pub invariant-loop-place : goal.invariant-loop-place
invariant-loop-place l = dims_of l.units ≡ l.place + dims_of (drop l.place l.units)
