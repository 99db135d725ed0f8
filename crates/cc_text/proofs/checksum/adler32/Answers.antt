use Rattle.std.proofs.Common.{sym, arith}
use Rattle.cc_text.proofs.Sums.{Sums-more, Sums-all}
use Rattle.cc_text.proofs.checksum.adler32.Goals as goal

pub loop-byte-preserved : goal.loop-byte-preserved
loop-byte-preserved c =
    rw c.from.ensures (Sums-more c.args.bytes.now c.loop-byte.byte-index c.loop-byte.a c.loop-byte.b (omega arith) c.loop-byte.invariant)

pub returns : goal.returns
returns c = sym (Sums-all c.args.bytes.now c.loop-byte.byte-index c.loop-byte.a c.loop-byte.b (omega arith) c.loop-byte.invariant)
