use Rattle.std.proofs.Common.{◌≡◌, take}
use Rattle.cc_dex_writer.proofs.tables.copy_protos.Given as goal

abbrev pub invariant-loop-proto : goal.invariant-loop-proto
invariant-loop-proto l = l.copy ≡ take l.proto-index l.protos
