use Rattle.std.proofs.Common.{◌≡◌, ◌+◌, drop}
use Rattle.cc_meaning_dex.specs.Descriptors.{dims_of}
use Rattle.cc_names.proofs.rows.dims_of.Given as goal

abbrev pub invariant-loop-place : goal.invariant-loop-place
invariant-loop-place l = dims_of l.name ≡ l.place + dims_of (drop l.place l.name)
