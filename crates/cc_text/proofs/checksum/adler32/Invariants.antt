use Rattle.cc_text.proofs.Sums.{Sums}
use Rattle.cc_text.proofs.checksum.adler32.Given as goal

abbrev pub invariant-loop-byte : goal.invariant-loop-byte
invariant-loop-byte l = Sums l.bytes l.byte-index l.a l.b
