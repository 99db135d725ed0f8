use Rattle.std.proofs.Common.{length}
use Rattle.cc_text.proofs.leb128.+signed_value.Given as goal

abbrev pub decreases-signed_value : goal.decreases-signed_value
decreases-signed_value l = length l.bytes.now
